use Rattle.std.proofs.Common.{◌≡◌, refl, sym, ◌∙◌, ap, subst, ℕ, List, drop, true, false, Option, Some, None, MatchOption, Bor}
use Rattle.std.specs.Option.{option_copied}
use Rattle.std.specs.Str.{IsCharBoundary}
use Rattle.std.specs.Str.Pattern.{FindsTextPrefix, StripsPrefix}
use Rattle.std.proofs.lemmas.Str.Pattern.{starts_text}
use Rattle.mypyc_top_words.specs.Words.{value_in}
use Rattle.mypyc_top_words.proofs.words.value_among.Goals as goal

stripped : (name word : List ℕ) (r : Option (Bor (List ℕ)))
    → MatchOption r (FindsTextPrefix name word None) (λ x. StripsPrefix (FindsTextPrefix name) word x.now)
    → option_copied r ≡ value_in name word
stripped name word None m = let no = starts_text false name word m in rw (← no) refl
stripped name word (Some x) m =
    let at : IsCharBoundary word m.0 = subst (IsCharBoundary word) (sym m.1.0) m.1.2 in
    let yes = starts_text true name word (m.0, m.1, at) in
    rw (← yes) (ap Some (m.2 ∙ ap (λ n. drop n word) m.1.0))

pub returns : goal.returns
returns c = stripped c.args.name.now c.args.word.now c.strip_prefix.result c.strip_prefix.ensures.cases
