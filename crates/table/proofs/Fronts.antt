-- What a table says of the first lines of a page: it still does after an edit behind them, and filled up from there it is true.
-- Assumes nothing.
use Rattle.std.specs.Prelude.{if◌then◌else◌}
use Prim.Native.Nat.{ℕ, ◌+◌, ◌≤◌, ◌<◌}
use mathlib.Core.Path.{◌≡◌, refl, sym, ap, subst, ◌∙◌}
use mathlib.Core.List.{List, [], ◌∷◌, ◌++◌, append-nil}
use native.Mathlib.Nat.{zero-add}
use native.Mathlib.Numerals.{add-one}
use native.Mathlib.Omega.{arith}
use lib.ListN.{length, take, drop, set, length-append, length-set, length-drop, take-append-drop}
use lib.Seq.{length-take-le, append_snoc, drop-drop, drop-set-lt, drop-set-add, take-suc-set, set_split}
use lib.Dec.{ltb, leb}
use borrow.Author.Tests.{leb-true}
use Rattle.nibl.specs.Page.{Stored, records_of, record_bytes, used}
use Rattle.nibl.specs.Table.{positions_from, walk_table, refilled}
use Rattle.page.specs.declared.Seat.{Seat}
use Rattle.page.specs.Edits.{seat_of, Seatable, Seated, spliced, can_store, store_at_seat, delete_at}
use Rattle.page.specs.Tables.{span_of}
use Rattle.page.proofs.Walk.{by_cases, Met}
use Rattle.page.proofs.Program.{both}
use Rattle.page.proofs.Ways.{Way, here, way-span, way-records, way-to, way-kept}
use Rattle.page.proofs.Tables.{lines-most, positions-append, walk-length, table-front}
use Rattle.table.specs.Index.{Described}
use Rattle.table.specs.Spots.{below, TableFront}
use Rattle.table.proofs.Below.{below-most, seat-span}

-- An edit leaves the way to its seat
module _ (page : List ℕ) (at : ℕ) {rs : List Stored} (w : Way page 0 at rs) where
  way-spliced : (gone top : ℕ) (new : List ℕ) → at ≤ length page → Way (spliced page at gone top new) 0 at rs
  way-spliced gone top new h =
      way-kept (take at page) (drop at page) _ (omega (arith, length-take-le at page h)) (rw (take-append-drop at page) w)

module _ (page : List ℕ) (s : Seat) (h : Seatable page s) {rs : List Stored} (w : Way page 0 s.at rs) where
  pub store-way : (n : ℕ) (t : List ℕ) → Way (store_at_seat page s n t).page 0 s.at rs
  unfolding store_at_seat
  store-way n t =
      by_cases (can_store page s (length t + 4))
      (λ e.
      let room = leb-true (used page) (length page) (both (leb (used page) (length page)) _ e).0 in
      rw (e, if◌then◌else◌) (way-spliced page s.at w s.gone (used page) (record_bytes (record { line = n; text = t })) (omega (arith, h.room))))
      (λ e. rw (e, if◌then◌else◌) w)

  pub delete-way : Way (delete_at page s).page 0 s.at rs
  unfolding delete_at
  delete-way =
      by_cases (ltb s.gone 1) (λ e. rw (e, if◌then◌else◌) w)
      (λ e. by_cases (leb (used page) (length page))
      (λ f. let room = leb-true (used page) (length page) f in rw (e, f, if◌then◌else◌) (way-spliced page s.at w s.gone (used page) [] (omega (arith, h.room))))
      (λ f. rw (e, f, if◌then◌else◌) w))

-- the way to the seat of a line, of the lines below it
pub seat-way : {page : List ℕ} {n : ℕ} {s : Seat} → Seated page n s → (let k = below n (records_of page) in Way page 0 s.at (take k (records_of page)))
unfolding seat_of
seat-way {page = page} {n = n} {s = s} h =
    let rs : List Stored = records_of page in
    let k : ℕ = below n rs in
    let e : span_of (take k rs) ≡ s.at = sym ((λ i. (h.is i).at) ∙ seat-span n 0 rs ∙ zero-add (span_of (take k rs))) in
    subst (λ (x : ℕ). Way page 0 x (take k rs)) e (way-to k page (below-most n rs))

-- the first lines of a page that has the way to them
pub way-front : {page table : List ℕ} {at : ℕ} {rs : List Stored} (k : ℕ) → 1025 ≤ length table → length page ≤ 4096 → Way page 0 at rs → length rs ≡ k
    → take k (drop 1 table) ≡ positions_from 0 rs → TableFront page table k at
way-front {page = page} {at = at} {rs = rs} k l s w c e =
    let more : List Stored = records_of (drop at page) in
    let all = way-records w in
    record {
      long = l;
      short = s;
      count = ap length all ∙ length-append rs more ∙ ap (λ (x : ℕ). x + length more) c;
      places = ap (positions_from 0) all ∙ positions-append 0 rs more ∙ (λ i. sym e i ++ positions_from (sym (way-span w) i) more);
    }

-- an edit's: the page before it is described, and the way to the seat is that of the page after it
pub edit-front : {page table page' : List ℕ} (n k : ℕ) (s : Seat) → Described page table → length page' ≡ length page → k ≡ below n (records_of page)
    → Way page' 0 s.at (take (below n (records_of page)) (records_of page)) → TableFront page' table k s.at
edit-front {page = page} {table = table} n k s d l e w =
    let rs : List Stored = records_of page in
    way-front k d.long (omega (arith, d.short)) w (length-take-le (below n rs) rs (below-most n rs) ∙ sym e)
    (ap (λ (x : ℕ). take x (drop 1 table)) e ∙ table-front page table d.is (below n rs) (below-most n rs))

pub new-front : (page table : List ℕ) → 1025 ≤ length table → length page ≤ 4096 → TableFront page table 0 0
new-front page table l s = way-front 0 l s here refl refl

-- The table while it is filled up: the first k entries are right, and those past them as they were
pub record Filling (page before table : List ℕ) (k at : ℕ) : Type 0 where
  pub front : TableFront page table k at
  pub long : length table ≡ length before
  pub behind : drop (k + 1) table ≡ drop (k + 1) before

pub fill_start : {page table : List ℕ} {k at : ℕ} → TableFront page table k at → Filling page table table k at
fill_start f = record { front = f; long = refl; behind = refl }

-- a turn, at a record of n bytes: there is room for its entry
module _ {page before table : List ℕ} {k at n : ℕ} (f : Filling page before table k at) (m : Met page at n) where
  pub fill-room : (at + 3 ≤ length page) × ((at + n ≤ length page + 1) × ((length page ≤ 4096) × (k + 1 < length table)))
  fill-room =
      let g = f.front in
      (m.inside, (m.next, (g.short, omega (arith, lines-most page, g.count, g.short, g.long, ap length m.records))))

  pub fill_step : Filling page before (set table (k + 1) at) (k + 1) (at + n)
  fill_step =
      let g = f.front in
      let room = fill-room.1.1.1 in
      let more : List Stored = records_of (drop (at + n) page) in
      let swap : k + 1 ≡ 1 + k = omega arith in
      let first : take (k + 1) (drop 1 (set table (k + 1) at)) ≡ take k (drop 1 table) ++ (at ∷ []) =
      ap (λ (x : ℕ). take (k + 1) (drop 1 (set table x at))) swap
      ∙ ap (take (k + 1)) (drop-set-add 1 table k at)
      ∙ ap (λ (x : ℕ). take x (set (drop 1 table) k at)) (add-one k)
      ∙ take-suc-set (drop 1 table) k at (omega (arith, length-drop 1 table)) in
      let next : positions_from at (records_of (drop at page)) ≡ at ∷ positions_from (at + n) more =
      ap (positions_from at) m.records ∙ ap (λ (x : ℕ). at ∷ positions_from (at + x) more) m.long in
      record {
        front = record {
          long = rw (length-set table (k + 1) at) g.long;
          short = g.short;
          count = omega (arith, g.count, ap length m.records);
          places =
              g.places
              ∙ ap (λ (l : List ℕ). take k (drop 1 table) ++ l) next
              ∙ sym (append_snoc (take k (drop 1 table)) at (positions_from (at + n) more))
              ∙ ap (λ (l : List ℕ). l ++ positions_from (at + n) more) (sym first);
        };
        long = length-set table (k + 1) at ∙ f.long;
        behind =
            drop-set-lt (k + 1 + 1) table (k + 1) at (omega arith)
            ∙ sym (drop-drop 1 (k + 1) table)
            ∙ ap (drop 1) f.behind
            ∙ drop-drop 1 (k + 1) before;
      }

-- past the last record the count makes it true
pub fill_end : {page before table : List ℕ} {k at : ℕ} → Filling page before table k at → records_of (drop at page) ≡ [] → set table 0 k ≡ refilled page before
unfolding refilled walk_table
fill_end {page = page} {before = before} {table = table} {k = k} {at = at} f e =
    let g = f.front in
    let rs : List Stored = records_of page in
    let count : length rs ≡ k = omega (arith, g.count, ap length e) in
    let places : positions_from 0 rs ≡ take k (drop 1 table) = g.places ∙ ap (λ (l : List Stored). take k (drop 1 table) ++ positions_from at l) e ∙ append-nil (take k (drop 1 table)) in
    let swap : 1 + k ≡ k + 1 = omega arith in
    let long : k + 1 ≡ length (walk_table page) = omega (arith, walk-length page) in
    let behind : drop k (drop 1 table) ≡ drop (length (walk_table page)) before =
    drop-drop k 1 table
    ∙ ap (λ (x : ℕ). drop x table) swap
    ∙ f.behind
    ∙ ap (λ (x : ℕ). drop x before) long in
    set_split table 0 k (omega (arith, g.long))
    ∙ ap (λ (l : List ℕ). k ∷ l) (sym (take-append-drop k (drop 1 table)))
    ∙ (λ i. sym count i ∷ (sym places i ++ behind i))
