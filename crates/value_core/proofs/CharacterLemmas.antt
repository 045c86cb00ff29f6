-- How many bytes stand before a code point, one code point after another.
use Rattle.std.proofs.Common.{◌≡◌, sym, ◌∙◌, ap, ℕ, ◌+◌, ◌<◌, ◌≤◌, arith, List, [], ◌∷◌, length, take, drop, get_or, add-one, length-append, append-nil}
use Rattle.std.proofs.Math.Seq.{take-suc}
use Rattle.std.proofs.lemmas.List.{take-append-drop}
use Rattle.std.proofs.lemmas.Str.{encodes-append, length-encode, encodes-chars}
use Rattle.std.proofs.Math.Utf8.{encodes, encode}
use Rattle.std.specs.Char.{len_utf8}
use Rattle.std.specs.Str.{chars, IsUtf8}
use Rattle.value_core.specs.Characters.{bytes_before}

one_char : (c : ℕ) → length (encodes (c ∷ [])) ≡ len_utf8 c
one_char c = ap length (append-nil (encode c)) ∙ length-encode c

-- the code point of number k takes the bytes up to the next one
pub bytes_before-next : (text : List ℕ) (k c : ℕ) → k < length (chars text) → c ≡ get_or (chars text) k c → bytes_before text (k + 1) ≡ bytes_before text k + len_utf8 c
bytes_before-next text k c l e =
    ap (λ n. length (encodes (take n (chars text)))) (add-one k)
    ∙ ap (λ cs. length (encodes cs)) (take-suc (chars text) k c l)
    ∙ ap length (encodes-append (take k (chars text)) (get_or (chars text) k c ∷ []))
    ∙ length-append (encodes (take k (chars text))) (encodes (get_or (chars text) k c ∷ []))
    ∙ ap (λ n. bytes_before text k + n) (one_char (get_or (chars text) k c) ∙ ap len_utf8 (sym e))

-- and no code point ends past the text
pub bytes_before-within : (text : List ℕ) (k : ℕ) → IsUtf8 text → bytes_before text k ≤ length text
bytes_before-within text k u =
    let whole : length (encodes (take k (chars text))) + length (encodes (drop k (chars text))) ≡ length text =
    sym (length-append (encodes (take k (chars text))) (encodes (drop k (chars text))))
    ∙ ap length (sym (encodes-append (take k (chars text)) (drop k (chars text))))
    ∙ ap (λ cs. length (encodes cs)) (take-append-drop k (chars text))
    ∙ ap length (encodes-chars text u)
    in
    omega (arith, whole)
