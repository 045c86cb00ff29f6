-- Conditions collected one after the other.
use Rattle.std.proofs.Common.{List, [], ◌∷◌, ◌++◌}
use Rattle.py_parser_expressions.specs.declared.parsed.Parsed.{Parsed}
use Rattle.py_parser_expressions.specs.Heads.{IsHead, AreHeads}

pub heads_push : (hs : List (Parsed × Parsed)) (h : Parsed × Parsed) → AreHeads hs → IsHead h → AreHeads (hs ++ h ∷ [])
heads_push [] h a b = (b, tt)
heads_push (g ∷ hs) h a b = (a.0, heads_push hs h a.1 b)

pub heads_front : (hs : List (Parsed × Parsed)) (h : Parsed × Parsed) → AreHeads (hs ++ h ∷ []) → AreHeads hs × IsHead h
heads_front [] h a = (tt, a.0)
heads_front (g ∷ hs) h a = let b = heads_front hs h a.1 in ((a.0, b.0), b.1)
