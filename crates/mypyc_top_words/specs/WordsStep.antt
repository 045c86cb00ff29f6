-- What the steps of reading the words give.
use Rattle.std.specs.Prelude.{◌≡◌, ℕ, List, [], ◌∷◌, Option, Some, None}
use Rattle.mypyc_top_words.specs.declared.words.Found.{Found}
use Rattle.mypyc_top_words.specs.declared.words.Found.TheVariants.{Nothing, One, More}
use Rattle.mypyc_top_words.specs.declared.words.Settings.{Settings}
use Rattle.mypyc_top_words.specs.declared.words.Words.{Words}
use Rattle.mypyc_top_words.specs.declared.words.Words.TheVariants as words

-- what words are of which this was found: none, this one, or more
abbrev pub Are : Found → List (List ℕ) → Type 0
Are Nothing ws = ws ≡ []
Are (One w) ws = ws ≡ w.now ∷ []
Are More ws = (first : List ℕ) × (second : List ℕ) × (more : List (List ℕ)) × (ws ≡ first ∷ second ∷ more)

-- what words mean that have these settings, or are no command
abbrev pub meant : Option Settings → Words
meant None = words.Usage
meant (Some s) = words.Go (record { emit = s.emit; stage = s.stage; turns = s.turns; file = s.file.now })
