use Rattle.std.proofs.Common.{◌≡◌, [], ◌∷◌, ◌++◌, map, Ok, ap, ◌∙◌, subst}
use Rattle.std.proofs.lemmas.List.{map-append}
use Rattle.py_parser_expressions.specs.declared.parsed.Parsed.{Parsed}
use Rattle.py_parser_expressions.specs.Heads.{head_of, AreHeads}
use Rattle.py_parser_expressions.specs.Prefixes as spec
use Rattle.py_parser_expressions.specs.Parsed.{seen}
use Rattle.py_parser_expressions.proofs.HeadLemmas.{heads_front}
use Rattle.py_parser_expressions.proofs.Prefixes.{conditionals_more}
use Rattle.py_parser_expressions.proofs.prefix.conditionals.Goals as goal

pub conditional-requires-clause-value : goal.conditional-requires-clause-value
conditional-requires-clause-value c =
    let is : c.fold.heads.items ≡ c.pop.new.self.items ++ (c.in-Some.value, c.in-Some.condition) ∷ [] = c.in-Some.ensures.items in
    (heads_front c.pop.new.self.items (c.in-Some.value, c.in-Some.condition) (subst AreHeads is c.fold.invariant.heads)).1.value

pub conditional-requires-clause-test : goal.conditional-requires-clause-test
conditional-requires-clause-test c =
    let is : c.fold.heads.items ≡ c.pop.new.self.items ++ (c.in-Some.value, c.in-Some.condition) ∷ [] = c.in-Some.ensures.items in
    (heads_front c.pop.new.self.items (c.in-Some.value, c.in-Some.condition) (subst AreHeads is c.fold.invariant.heads)).1.test

pub fold-preserved : goal.fold-preserved
fold-preserved c =
    let h : Parsed × Parsed = (c.in-Some.value, c.in-Some.condition) in
    let is : c.fold.heads.items ≡ c.pop.new.self.items ++ h ∷ [] = c.in-Some.ensures.items in
    record {
      so_far =
          c.fold.invariant.so_far
          ∙ ap (λ hs. spec.conditionals (map head_of hs) (Ok (seen c.fold.last))) is
          ∙ ap (λ hs. spec.conditionals hs (Ok (seen c.fold.last))) (map-append head_of c.pop.new.self.items (h ∷ []))
          ∙ conditionals_more (map head_of c.pop.new.self.items) (head_of h) (Ok (seen c.fold.last))
          ∙ ap (spec.conditionals (map head_of c.pop.new.self.items)) c.in_ok-last.ensures.read;
      heads = (heads_front c.pop.new.self.items h (subst AreHeads is c.fold.invariant.heads)).0;
      finished = c.in_ok-last.ensures.finished;
      stays = c.in_ok-last.ensures.at ∙ c.fold.invariant.stays;
    }
