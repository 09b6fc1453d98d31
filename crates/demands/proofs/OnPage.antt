-- On a good page its records, the line that GOTO and GOSUB go to, 8, and TOP are said of the bytes: where a record of that number stands, that none does, and the
-- bytes up to the end mark with it. Assumes nothing.
use Prim.Native.Nat.{ℕ, suc, ◌+◌, ◌≤◌}
use mathlib.Core.Path.{◌≡◌, sym, ap, subst, ◌∙◌}
use mathlib.Core.Bool.{true≢false}
use mathlib.Core.List.{List}
use mathlib.Core.Logic.{◌↔◌}
use native.Mathlib.Nat.{zero-add}
use native.Mathlib.Omega.{arith}
use lib.ListN.{length, drop}
use lib.Dec.{eqb}
use borrow.Author.Tests.{eqb-true, eqb-false}
use Rattle.nibl.specs.Page.{Stored, is_end, line_at, length_at, records_of, size, used_by, program_bytes}
use Rattle.nibl.specs.Typing.{limit}
use Rattle.page.proofs.Walk.{by_cases}
use Rattle.page.proofs.Program.{end-bytes, program-length}
use Rattle.page.proofs.Laid.{Whole, Laid, good-laid}
use Rattle.page.proofs.Laid as laid
use Rattle.demands.specs.Items.{In, first, further}
use Rattle.demands.specs.Good.{RecordAt, Boundary, start, behind, GoodPage}
use Rattle.demands.specs.Work.{LineAt, this_line, later_line, NoLine}
use Rattle.demands.specs.OnPage.{RecordsStand, no_more, one_more, LineStands, MarkStands}
use Rattle.demands.proofs.Good.{good-exact, whole-record, record-unended}

-- a record that stands where one was found is that one
pub same_size : {lim at n : ℕ} {page t : List ℕ} {r : Stored} → Whole lim page at r → RecordAt page at n t → size r ≡ length t + 4
same_size w a = sym w.long ∙ ap length_at a.bytes

same_line : {lim at n : ℕ} {page t : List ℕ} {r : Stored} → Whole lim page at r → RecordAt page at n t → r.line ≡ n
same_line w a = sym w.line ∙ ap line_at a.bytes ∙ sym a.number

records-of : {lim : ℕ} {page : List ℕ} {low at : ℕ} {rs : List Stored} → Laid lim page low at rs → RecordsStand page at rs
records-of {page = page} {at = at} (laid.ends e) = no_more (record { after = drop 2 (drop at page); bytes = end-bytes (drop at page) e })
records-of (laid.laid l w p) = one_more (whole-record w) (records-of p)

module _ (page : List ℕ) where
  -- the records from a boundary on: what is found among them is found in the page, and what they use with what lies before is all
  record On (at : ℕ) : Type 0 where
    low : ℕ
    records : List Stored
    laid : Laid limit page low at records
    lifts : (n q : ℕ) → low ≤ n → LineAt n at records q → LineAt n 0 (records_of page) q
    uses : at + used_by records ≡ used_by (records_of page)

  module _ (at n : ℕ) (t : List ℕ) (a : RecordAt page at n t) where
    on-behind : {low : ℕ} {rs : List Stored} → Laid limit page low at rs → ((m q : ℕ) → low ≤ m → LineAt m at rs q → LineAt m 0 (records_of page) q)
        → at + used_by rs ≡ used_by (records_of page) → On (at + (length t + 4))
    on-behind (laid.ends e) f u = absurd (record-unended a e)
    on-behind {low = low} (laid.laid {r = r} {rs = rs} l w p) f u =
        let s = same_size w a in
        record {
          low = suc r.line;
          records = rs;
          laid = subst (λ (k : ℕ). Laid limit page (suc r.line) (at + k) rs) s p;
          lifts = λ m q h i. f m q (omega arith) (later_line (λ e. omega arith) (subst (λ (k : ℕ). LineAt m (at + k) rs q) (sym s) i));
          uses = omega arith;
        }

    line-here : {low : ℕ} {rs : List Stored} → Laid limit page low at rs → ((m q : ℕ) → low ≤ m → LineAt m at rs q → LineAt m 0 (records_of page) q) → LineAt n 0 (records_of page) at
    line-here (laid.ends e) f = absurd (record-unended a e)
    line-here (laid.laid {r = r} l w p) f = let i = same_line w a in f n at (omega arith) (this_line i)

  on-boundary : Laid limit page 0 0 (records_of page) → {at : ℕ} → Boundary page at → On at
  on-boundary g start = record { low = 0; records = records_of page; laid = g; lifts = λ n q h l. l; uses = zero-add (used_by (records_of page)) }
  on-boundary g (behind {at = at} {n = n} {t = t} b a) = let o = on-boundary g b in on-behind at n t a o.laid o.lifts o.uses

  stands_of : {low at n q : ℕ} {rs : List Stored} → Boundary page at → Laid limit page low at rs → LineAt n at rs q → LineStands page n q
  stands_of b (laid.ends _) h = elim h [ ]
  stands_of b (laid.laid {r = r} l w p) (this_line h) = record { boundary = b; text = r.text; stands = rw h at (whole-record w) }
  stands_of b (laid.laid {r = r} l w p) (later_line h i) = stands_of (behind b (whole-record w)) p i

  module _ (good : GoodPage limit page) where
    known : Laid limit page 0 0 (records_of page)
    known = good-laid limit page (omega arith) ((good-exact limit page (omega arith)).1 good)

    -- the records that are edited and listed are those that stand there, byte for byte
    pub the-records-stand : RecordsStand page 0 (records_of page)
    the-records-stand = records-of known

    -- the line that is found is the one that stands there
    pub a-line-stands : (n q : ℕ) → LineAt n 0 (records_of page) q ↔ LineStands page n q
    a-line-stands n q = (stands_of start known, λ s. let o = on-boundary known s.boundary in line-here q n s.text s.stands o.laid o.lifts)

    -- and 8 is where none stands
    pub no-line-stands : (n : ℕ) → NoLine n (records_of page) ↔ ((q : ℕ) → LineStands page n q → ⊥)
    no-line-stands n = (λ h q s. none h ((a-line-stands n q).1 s), λ h r i e. let l = some-line 0 i e in h l.0 ((a-line-stands n l.0).0 l.1)) where
      none : {at q : ℕ} {rs : List Stored} → NoLine n rs → LineAt n at rs q → ⊥
      none h (this_line {r = r} e) = h r first e
      none h (later_line e l) = none (λ r i. h r (further i)) l

      some-line : {r : Stored} {rs : List Stored} (at : ℕ) → In r rs → r.line ≡ n → (q : ℕ) × LineAt n at rs q
      some-line at first e = (at, this_line e)
      some-line at (further {y = s} i) e =
          by_cases (eqb s.line n) (λ h. (at, this_line (eqb-true _ _ h))) (λ h. let l = some-line (at + size s) i e in (l.0, later_line (eqb-false _ _ h) l.1))

    -- TOP: the bytes up to the end mark, and its two
    pub top-is-behind-the-mark : (q : ℕ) → MarkStands page q → length (program_bytes (records_of page)) ≡ q + 2
    top-is-behind-the-mark q m = let o = on-boundary known m.boundary in program-length (records_of page) ∙ by o.laid o.uses where
      by : {low : ℕ} {rs : List Stored} → Laid limit page low q rs → q + used_by rs ≡ used_by (records_of page) → used_by (records_of page) ≡ q + 2
      by (laid.ends e) u = sym u
      by (laid.laid l w p) u = absurd (true≢false (sym (ap is_end m.stands.bytes) ∙ w.there))
