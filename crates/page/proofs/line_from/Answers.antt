-- `line_from` meets its contract: what is passed up to the CR is the text. Assumes nothing.
use Rattle.std.proofs.Common.{◌≡◌, ◌∙◌, ap, ℕ, ◌-◌, ◌==◌, List, Option, drop, take, length}
use Rattle.std.specs.List.{position}
use Rattle.std.specs.Option.{unwrap_or}
use Rattle.page.proofs.Texts.{rest_is, first-part}
use Rattle.page.proofs.line_from.Goals as goal

pub returns : goal.returns
returns c =
    let s = c.args.s.now in
    let q = drop c.args.at s in
    let r : take (length s - c.min.result) (drop c.min.result s) ≡ q = rw c.min.ensures (rest_is s c.args.at) in
    let e : c.unwrap_or.result ≡ unwrap_or (position (λ (b : ℕ). b == 13) q) (length q) =
    c.unwrap_or.ensures
    ∙ ap (λ (o : Option ℕ). unwrap_or o (length (take (length s - c.min.result) (drop c.min.result s)))) c.find_cr.ensures
    ∙ ap (λ (l : List ℕ). unwrap_or (position (λ (b : ℕ). b == 13) l) (length l)) r in
    (λ i. take (e i) (r i)) ∙ first-part q
