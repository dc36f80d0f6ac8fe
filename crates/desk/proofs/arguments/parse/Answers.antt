use Rattle.std.proofs.Common.{◌≡◌, ℕ, ◌<◌, ◌≤◌, List, [], ◌∷◌, length, get_or, codes, map, ap, ◌∙◌, arith}
use Rattle.std.proofs.lemmas.Slice.Eq.{bytes_eq-Decides}
use Rattle.std.proofs.lemmas.Bool.Decides.{nat_tests}
use Rattle.desk.specs.Arguments.{unknown, asked, asked_by}
use Rattle.desk.proofs.arguments.parse.Goals as goal

neither : (w : List ℕ) → (w ≡ codes "-" → ⊥) → (w ≡ codes "--help" → ⊥) → unknown w ≡ asked_by w
neither w a b =
    let p = bytes_eq-Decides w (codes "-") in
    let q = bytes_eq-Decides w (codes "--help") in
    grind (arith, nat_tests)

one_word : {X : Type 0} (text : X → List ℕ) (l : List X) (x : X) → 1 ≤ length l → length l < 2 → x ≡ get_or l 0 x → asked_by (text x) ≡ asked (map text l)
one_word text [] x some one is = absurd (omega arith)
one_word text (y ∷ []) x some one is = ap (λ z. asked_by (text z)) is
one_word text (y ∷ z ∷ l) x some one is = absurd (omega arith)

pub returns-in_default-as_str : goal.returns-in_default-as_str
returns-in_default-as_str c =
    let len = c.in-len1 in
    neither _ c.in_default-as_str.not-text c.in_default-as_str.not-text-2 ∙ ap asked_by c.as_str.ensures.value
    ∙ one_word _ c.args.words.now _ len.len_at_least len.len_below c.word-item.is
