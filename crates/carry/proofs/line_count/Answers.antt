-- `line_count` meets its contract: a record an item. Assumes nothing.
use Rattle.std.proofs.Common.{◌≡◌, ℕ, suc, ◌+◌, List, [], ◌∷◌, length, drop, Option, None, sym, ap, subst, ◌∙◌}
use Rattle.std.specs.Iterator.{Yields, Drains}
use Rattle.nibl.specs.Page.{records_of}
use Rattle.page.specs.Walk.{Steps}
use Rattle.page.specs.declared.Records.{Records}
use Rattle.page.proofs.Walk.{Met, stepped, stayed}
use Rattle.carry.proofs.line_count.Goals as goal

-- a call of `next`
abbrev gives : Records → Option (ℕ × ℕ) → Records → Type 0
gives s r t = Steps s.page.now s.at r t.page.now t.at

walked : (p : List ℕ) (xs : List (ℕ × ℕ)) (s t u : Records) → s.page.now ≡ p → Yields gives s xs t → gives t None u → length xs ≡ length (records_of (drop s.at p))
walked p [] s t u e y n =
    let end : gives s None u = subst (λ (k : Records). gives k None u) (sym y) n in sym (ap length (stayed e end))
walked p ((i, k) ∷ xs) s t u e (j, g, y) n =
    let m : Met p s.at k = stepped e g in
    let page : j.page.now ≡ p = g.0 ∙ e in
    let next : j.at ≡ s.at + k = g.1.1.1 in
    ap suc (walked p xs j t u page y n ∙ ap (λ (a : ℕ). length (records_of (drop a p))) next) ∙ sym (ap length m.records)

counted : (p : List ℕ) (s : Records) {n : ℕ} → s.page.now ≡ p → s.at ≡ 0 → (xs : List (ℕ × ℕ)) × Drains gives s xs × (n ≡ length xs) → n ≡ length (records_of p)
counted p s e z (xs, (u, (t, y, n)), l) = l ∙ walked p xs s t u e y n ∙ ap (λ (a : ℕ). length (records_of (drop a p))) z

pub returns : goal.returns
returns c = counted c.args.page.now c.of.result c.of.ensures.0 c.of.ensures.1 c.count.ensures.ran
