-- A name is not empty.
use Rattle.std.proofs.Common.{◌≡◌, ℕ, ◌<◌, ◌≤◌, true, false, List, [], ◌∷◌, length, drop, refl, sym, ◌∙◌, arith, length-drop}
use Rattle.unicode_ident.specs.Ident.{is_xid_continue}
use Rattle.unicode_ident.proofs.IdentLemmas.{is_xid_start-is_xid_continue}
use Rattle.unicode_ident.proofs.Computing.{unicode_ident}
use Rattle.py_lexer.specs.declared.placed.Placed.{Placed}
use Rattle.py_lexer.specs.Places.{character_at}
use Rattle.py_lexer_words.specs.Words.{begins_name}
use Rattle.py_lexer.specs.Words.{word_len}

pub no_nul : begins_name 0 ≡ false
unfolding unicode_ident
no_nul = refl

underscore : is_xid_continue 95 ≡ true
unfolding unicode_ident
underscore = refl

pub continues : (c : ℕ) → begins_name c ≡ true → is_xid_continue c ≡ true
continues c h = grind (arith, underscore, is_xid_start-is_xid_continue)

longer : (c : Placed) (cs : List Placed) → is_xid_continue c.character ≡ true → 1 ≤ word_len (c ∷ cs)
longer c cs h = rw h (omega arith)

pub word_shorter : (cs : List Placed) → begins_name (character_at 0 cs) ≡ true → length (drop (word_len cs) cs) < length cs
word_shorter [] h = absurd (let e = sym no_nul ∙ h in cc)
word_shorter (c ∷ cs) h =
    let k = longer c cs (continues c.character h) in omega (arith, length-drop (word_len (c ∷ cs)) (c ∷ cs), k)
