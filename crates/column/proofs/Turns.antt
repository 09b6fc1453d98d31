-- Along a stack: which of what may come begins with a word. Assumes nothing.
use Rattle.std.specs.Prelude.{if◌then◌else◌, None, Some}
use Prim.Native.Nat.{ℕ, ◌+◌, ◌≤◌, ◌<◌}
use mathlib.Core.Path.{◌≡◌, refl, sym, ap, ◌∙◌}
use mathlib.Core.List.{List, [], ◌∷◌, ◌++◌}
use mathlib.Core.Option.{Option, none, some}
use native.Mathlib.Omega.{arith}
use denote.Ref.{Bor}
use borrow.Author.Tests.{le-leb, lt-leb}
use lib.ListN.{length, drop, get_or, drop_of_length-le}
use Rattle.nibl.specs.found.Column.{cases_of, case_in, is_optional, turn}
use Rattle.word.proofs.Runs.{at_byte}
use Rattle.column.specs.Rules.{SeekIs}
use Rattle.column.proofs.Table.{next-short}

turn_by : (k x : ℕ) (xs : List ℕ) (o : Option (List ℕ)) → o ≡ case_in (cases_of x) k
    → turn k (x ∷ xs) ≡ elim o [ some next ↦ some (next ++ xs) | none ↦ if is_optional x then turn k xs else none ]
unfolding turn
turn_by k x xs o e = rw (sym e, turn)

turn-ended : (k : ℕ) → turn k [] ≡ none
unfolding turn
turn-ended k = refl

-- Where the search along the stack stands
pub record Seeking (stack : List ℕ) (top k t : ℕ) : Type 0 where
  pub low : top ≤ t
  pub same : turn k (drop t stack) ≡ turn k (drop top stack)

pub seeking-first : (stack : List ℕ) (top k : ℕ) → Seeking stack top k top
seeking-first stack top k = record { low = omega arith; same = refl }

module _ {stack : List ℕ} {top k t : ℕ} (s : Seeking stack top k t) where
  pub seek-end : length stack ≤ t → SeekIs stack top k None
  seek-end h = record { same = sym (ap (turn k) (drop_of_length-le stack h) ∙ turn-ended k) ∙ s.same; at = tt }

  module _ (h : t < length stack) where
    at_top : turn k (get_or stack t 0 ∷ drop (t + 1) stack) ≡ turn k (drop top stack)
    at_top = ap (turn k) (sym (at_byte stack t h)) ∙ s.same

    pub seek-hit : (next : Bor (List ℕ)) → some next.now ≡ case_in (cases_of (get_or stack t 0)) k → SeekIs stack top k (Some (record { at = t; next = next }))
    seek-hit next e = record {
      same = sym (turn_by k (get_or stack t 0) (drop (t + 1) stack) (some next.now) e) ∙ at_top;
      at = record { low = s.low; inside = h; short = next-short (get_or stack t 0) k next.now e };
    }

    module _ (e : none ≡ case_in (cases_of (get_or stack t 0)) k) where
      missed : turn k (get_or stack t 0 ∷ drop (t + 1) stack) ≡ (if is_optional (get_or stack t 0) then turn k (drop (t + 1) stack) else none)
      missed = turn_by k (get_or stack t 0) (drop (t + 1) stack) none e

      pub seek-stop : get_or stack t 0 < 22 → SeekIs stack top k None
      seek-stop l = record { same = (rw (lt-leb 22 (get_or stack t 0) l) at (sym missed)) ∙ at_top; at = tt }

      pub seeking-on : 22 ≤ get_or stack t 0 → Seeking stack top k (t + 1)
      seeking-on l = record { low = omega (arith, s.low); same = (rw (le-leb 22 (get_or stack t 0) l) at (sym missed)) ∙ at_top }
