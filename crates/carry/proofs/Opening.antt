-- A slice opened: where its records end tells what it carries. Assumes nothing.
use Rattle.std.specs.Prelude.{Some, None}
use Rattle.std.proofs.lemmas.Option.{none-some, same_Some}
use Prim.Native.Nat.{ℕ, ◌+◌, ◌-◌, ◌≤◌}
use mathlib.Core.Path.{◌≡◌, refl, sym, ap, ◌∙◌}
use mathlib.Core.Bool.{true, false}
use mathlib.Core.List.{List}
use native.Mathlib.Omega.{arith}
use lib.ListN.{length, take, drop, length-append, length-drop}
use lib.Seq.{take_at, drop_at, drop-drop}
use Rattle.nibl.specs.Values.{is, no}
use Rattle.nibl.specs.Page.{Stored, line_at}
use Rattle.nibl.specs.Saved.{records_bytes}
use Rattle.nibl.specs.found.Form.{values_in, Parted, broken, parted, records_in, is_counted, carried_by, has_number, has_values, form_in}
use Rattle.page.specs.Standing.{Bytes}
use Rattle.page.proofs.Forms.{bytes-from, Known, read, records-known}
use Rattle.places.specs.Ends.{end_in}
use Rattle.carry.specs.Forms.{OpenedAt}

module _ (lim : ℕ) (s : List ℕ) where
  pub no_number : has_number s ≡ false → form_in lim s ≡ no 22
  unfolding form_in
  no_number e = rw e

  pub no-values : has_number s ≡ true → has_values s ≡ false → form_in lim s ≡ no 23
  unfolding form_in
  no-values e f = rw (e, f)

  abbrev pub records : Parted
  records = records_in lim (line_at (drop 54 s)) 0 (drop 56 s)

  -- behind the line count
  behind-count : has_number s ≡ true → has_values s ≡ true → form_in lim s ≡ carried_by (values_in 26 (drop 2 s)) records
  unfolding form_in
  behind-count e f = rw (e, f)

  -- what stands behind the records, and where
  record PartedAt (p : Parted) (e : ℕ) : Type 0 where
    rs : List Stored
    is : p ≡ parted rs (drop e s)
    bytes : take (e - 56) (drop 56 s) ≡ records_bytes rs
    start : 56 ≤ e
    inside : e ≤ length s

  parted-at : 56 ≤ length s → (p : Parted) → Known lim (line_at (drop 54 s)) 0 (drop 56 s) p → {e : ℕ} → end_in s p ≡ Some e → PartedAt p e
  parted-at l broken k h = absurd (none-some _ h)
  parted-at l (parted rs q) (read k) {e} h =
      let b : List ℕ = records_bytes rs in
      let end : length s - length q ≡ e = same_Some _ _ h in
      let long : length (drop 56 s) ≡ length b + length q = ap length k.bytes ∙ length-append b q in
      let at : e - 56 ≡ length b = omega (arith, length-drop 56 s) in
      let there : 56 + (e - 56) ≡ e = omega (arith, length-drop 56 s) in
      let rest : q ≡ drop e s =
      sym (drop_at b q (e - 56) (sym at)) ∙ ap (drop (e - 56)) (sym k.bytes) ∙ drop-drop (e - 56) 56 s ∙ ap (λ (n : ℕ). drop n s) there in
      record {
        rs = rs;
        is = ap (parted rs) rest;
        bytes = ap (take (e - 56)) k.bytes ∙ take_at b q (e - 56) (sym at);
        start = omega (arith, length-drop 56 s);
        inside = omega arith;
      }

  pub end-within : {e : ℕ} → end_in s records ≡ Some e → e ≤ length s
  end-within {e} h = by records h where
    by : (p : Parted) → end_in s p ≡ Some e → e ≤ length s
    by broken k = absurd (none-some _ k)
    by (parted rs q) k = let end : length s - length q ≡ e = same_Some _ _ k in omega arith

  -- records that a good page may not hold
  pub no-records : has_number s ≡ true → has_values s ≡ true → end_in s records ≡ None → form_in lim s ≡ no 23
  no-records f v h = behind-count f v ∙ by records h where
    by : (p : Parted) → end_in s p ≡ None → carried_by (values_in 26 (drop 2 s)) p ≡ no 23
    by broken i = refl
    by (parted rs q) i = absurd (none-some _ (sym i))

  module _ (b : Bytes s) (l : 56 ≤ length s) (f : has_number s ≡ true) (v : has_values s ≡ true) {e : ℕ} (h : end_in s records ≡ Some e) where
    there : PartedAt records e
    there = parted-at l records (records-known lim (line_at (drop 54 s)) 0 (drop 56 s) (bytes-from 56 s b)) h

    pub no-memory : is_counted (drop e s) ≡ false → form_in lim s ≡ no 23
    no-memory c = behind-count f v ∙ ap (carried_by (values_in 26 (drop 2 s))) there.is ∙ rw c

    pub opens : is_counted (drop e s) ≡ true → 2 ≤ length (drop e s) → OpenedAt lim s e
    opens c n =
        let t = there in
        record {
          records = t.rs;
          form =
              behind-count f v ∙ ap (carried_by (values_in 26 (drop 2 s))) t.is ∙ rw c
              (ap (λ (q : List ℕ). is (record { vars = values_in 26 (drop 2 s); records = t.rs; memory = q })) (drop-drop 2 e s));
          bytes = t.bytes;
          start = t.start;
          inside = omega (arith, t.inside, length-drop e s);
        }
