-- The first refusals, 5 and "sound stays sound" over the grammar: no sentence here names a function that reads, but for the exactness of a test. Assumes nothing.
use Prim.Native.Nat.{ℕ}
use mathlib.Core.Path.{◌≡◌, ap}
use mathlib.Core.Bool.{true}
use mathlib.Core.List.{List}
use mathlib.Core.Logic.{◌⊎◌, inl, inr, ◌↔◌}
use mathlib.Core.Option.{some}
use native.Mathlib.Omega.{arith}
use Rattle.nibl.specs.Tree.{Typed}
use Rattle.nibl.specs.Readings.{LineReading}
use Rattle.nibl.specs.Typing.{Gathered}
use Rattle.nibl.specs.Meaning.{World, Env}
use Rattle.nibl.specs.Page.{is_good, fits}
use Rattle.nibl.specs.Lent.{Lent, Left}
use Rattle.nibl.specs.Runs.{run_from}
use Rattle.nibl.specs.Typing.{limit}
use Rattle.nibl.specs.FirstRefusals.{table_is_true, first_refusal}
use Rattle.nibl.specs.Calls.{take_line, continue_run}
use Rattle.nibl.specs.Record.{paused_at}
use Rattle.nibl.specs.declared.Session.{Session}
use Rattle.page.proofs.Walk.{by_cases}
use Rattle.record.specs.Sound.{Sized, Sound}
use Rattle.demands.specs.Lent.{HasTable, InRange, gathered_line}
use Rattle.demands.specs.Leaves.{BothUnchanged}
use Rattle.demands.specs.Good.{GoodPage, TrueTable, LentTrue, PauseFits, Fits, Unrefused, LeftSound}
use Rattle.demands.proofs.Accepted.{Accepted, accepted-of, accepted-is}
use Rattle.demands.proofs.Tables.{lent-true-exact}
use Rattle.demands.proofs.Forced.{a-bad-page-is-18, a-false-table-is-26, a-record-that-does-not-fit-is-19}
use Rattle.demands.proofs.Fixed.{unread-takes-the-line}
use Rattle.demands.proofs.Sound.{sound-stays-sound}
use Rattle.demands.proofs.Five.{no-grammar-refusal-while-running, exactly-5}
use Rattle.demands.proofs.Good.{good-exact, stands-exact, fits-exact}

-- within the limit of a line
pub a-good-page : (page : List ℕ) → (is_good limit page ≡ true) ↔ GoodPage limit page
a-good-page page = good-exact limit page (omega arith)

-- a good page with a fitting record
pub sound-exact : (page : List ℕ) (s : Session) → Sized s → Sound limit page s ↔ (GoodPage limit page × Fits page s)
sound-exact page s z = (so, is) where
  so : Sound limit page s → GoodPage limit page × Fits page s
  so h = let g = (a-good-page page).0 h.good in (g, (fits-exact limit (omega arith) page g s).0 h.fitting)

  is : GoodPage limit page × Fits page s → Sound limit page s
  is h = record { good = (a-good-page page).1 h.0; fitting = (fits-exact limit (omega arith) page h.0 s).1 h.1; sized = z }

module _ (x : Lent) where
  unrefused-so : Accepted limit x → Unrefused limit x
  unrefused-so a =
      let g = (a-good-page x.page).0 a.good in
      record { range = a.range; good = g; table = (lent-true-exact x g).0 a.table; fits = (fits-exact limit (omega arith) x.page g x.session).0 a.fit }

  unrefused-is : Unrefused limit x → Accepted limit x
  unrefused-is u =
      record {
        range = u.range;
        good = (a-good-page x.page).1 u.good;
        table = (lent-true-exact x u.good).1 u.table;
        fit = (fits-exact limit (omega arith) x.page u.good x.session).1 u.fits;
      }

  pub unrefused-exact : (first_refusal limit x ≡ 0) ↔ Unrefused limit x
  unrefused-exact = (λ z. unrefused-so (accepted-of limit x z), λ u. accepted-is (unrefused-is u))

  -- "18, 19: bad page; session record does not fit"; between them "26, a table that does not describe the page"
  pub no-good-page-is-18 : InRange x → (GoodPage limit x.page → ⊥) → BothUnchanged x 18
  no-good-page-is-18 r h = by_cases (is_good limit x.page) (λ e. absurd (h ((a-good-page x.page).0 e))) (a-bad-page-is-18 x r)

  pub no-true-table-is-26 : InRange x → GoodPage limit x.page → HasTable x → (TrueTable x.page x.table → ⊥) → BothUnchanged x 26
  no-true-table-is-26 r g n h =
      by_cases (table_is_true x) (λ e. absurd (h ((lent-true-exact x g).0 e n))) (a-false-table-is-26 x r ((a-good-page x.page).1 g))

  pub no-fitting-record-is-19 : InRange x → GoodPage limit x.page → LentTrue x → (Fits x.page x.session → ⊥) → BothUnchanged x 19
  no-fitting-record-is-19 r g t h =
      by_cases (fits x.page x.session) (λ e. absurd (h ((fits-exact limit (omega arith) x.page g x.session).0 e)))
      (a-record-that-does-not-fit-is-19 x r ((a-good-page x.page).1 g) ((lent-true-exact x g).1 t))

  -- "over-long typed line, or no reading"
  pub exactly-5-by-grammar : (g : Gathered) → Sized x.session → Unrefused limit x → gathered_line limit x ≡ some g
      → ((take_line x).answer.stop ≡ 5) ↔ ((g.line.long ≡ true) ⊎ ((y : Typed) → LineReading g.line.bytes y → ⊥))
  exactly-5-by-grammar g sized u line = (by, λ h. ap (λ (o : Left). o.outcome.answer.stop) (unread-takes-the-line x z g line h)) where
    z : first_refusal limit x ≡ 0
    z = unrefused-exact.1 u

    by : (take_line x).answer.stop ≡ 5 → (g.line.long ≡ true) ⊎ ((y : Typed) → LineReading g.line.bytes y → ⊥)
    by h = by_cases g.line.long (λ l. inl l) (λ l. inr ((exactly-5 x g sized z line l).0 h))

-- Of a run, from wherever one may stand on a good page with a fitting record
pub no-grammar-refusal-by-grammar : (e : Env) (k q : ℕ) (w : World) → GoodPage limit e.page → Fits e.page w.session → Sized w.session → PauseFits e.page (paused_at q)
    → (run_from k e q w).stop ≡ 5 → ⊥
no-grammar-refusal-by-grammar e k q w g f z p =
    no-grammar-refusal-while-running limit e (omega arith) k q w ((sound-exact e.page w.session z).1 (g, f)) ((stands-exact limit e.page (omega arith) g (paused_at q)).1 p)

-- "a good page with a fitting record leads to a good page with a fitting record"
pub good-stays-good : (x : Lent) → Sized x.session → GoodPage limit x.page → Fits x.page x.session → LeftSound limit (take_line x) × LeftSound limit (continue_run x)
good-stays-good x z g f =
    let s = sound-stays-sound x ((sound-exact x.page x.session z).1 (g, f)) in (
      (sound-exact (take_line x).page (take_line x).session s.0.sized).0 s.0,
      (sound-exact (continue_run x).page (continue_run x).session s.1.sized).0 s.1,
    )
