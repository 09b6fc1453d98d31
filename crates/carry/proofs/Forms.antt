-- A form's bytes, piece behind piece, and how many they are. Assumes nothing.
use Prim.Native.Nat.{ℕ, suc, ◌+◌, ◌-◌, ◌≤◌}
use mathlib.Core.Path.{◌≡◌, refl, sym, ap, ◌∙◌}
use mathlib.Core.Bool.{true}
use mathlib.Core.List.{List, [], ◌∷◌, ◌++◌, append_assoc}
use native.Mathlib.Omega.{arith}
use lib.ListN.{length, take, drop, set, length-append}
use lib.Seq.{sets, sets-eq, take_at, drop-drop}
use borrow.Rule.Slice.PartMut.{put_mid}
use Rattle.nibl.specs.Page.{Stored, record_bytes, program_bytes, is_good, records_of, used_by, used, onto}
use Rattle.nibl.specs.Saved.{RuleSet, two_bytes, values_bytes, records_bytes, counted, form_number, saved_form}
use Rattle.page.specs.Standing.{Bytes}
use Rattle.page.proofs.Program.{program-length}
use Rattle.page.proofs.Laid.{good-bytes}
use Rattle.page.proofs.Forms.{values_length}
use Rattle.value.proofs.Writing.{sets-append}

-- a program is its records and the end mark
pub program-records : (rs : List Stored) → program_bytes rs ≡ records_bytes rs ++ (255 ∷ 255 ∷ [])
program-records [] = refl
program-records (r ∷ rs) = ap (λ (l : List ℕ). record_bytes r ++ l) (program-records rs) ∙ sym (append_assoc (record_bytes r) (records_bytes rs) (255 ∷ 255 ∷ []))

pub records-length : (rs : List Stored) → length (records_bytes rs) + 2 ≡ used_by rs
records-length rs = sym (length-append (records_bytes rs) (255 ∷ 255 ∷ [])) ∙ ap length (sym (program-records rs)) ∙ program-length rs

pub used-least : (page : List ℕ) → 2 ≤ used page
unfolding used
used-least page = omega (arith, records-length (records_of page))

-- the page with these records, by their bytes
pub onto-records : (page : List ℕ) (rs : List Stored) → onto page rs ≡ records_bytes rs ++ (255 ∷ 255 ∷ drop (length (records_bytes rs) + 2) page)
onto-records page rs =
    let long : length (program_bytes rs) ≡ length (records_bytes rs) + 2 = program-length rs ∙ sym (records-length rs) in
    (λ i. program-records rs i ++ drop (long i) page) ∙ append_assoc (records_bytes rs) (255 ∷ 255 ∷ []) (drop (length (records_bytes rs) + 2) page)

pub form-length : (c : RuleSet) → length c.vars ≡ 26 → length (saved_form c) ≡ 56 + used_by c.records + length c.memory
unfolding saved_form
form-length c n =
    let vs : List ℕ = values_bytes c.vars in
    let rb : List ℕ = records_bytes c.records in
    let cm : List ℕ = two_bytes (length c.memory) ++ c.memory in
    omega (arith, values_length c.vars, records-length c.records, length-append vs (two_bytes (length c.records) ++ (rb ++ cm)), length-append rb cm)

-- the records of a good page, as in the page
pub good-records : (lim : ℕ) (page : List ℕ) → Bytes page → is_good lim page ≡ true → take (used page - 2) page ≡ records_bytes (records_of page)
unfolding used
good-records lim page b g =
    let rs : List Stored = records_of page in
    let rest : List ℕ = drop (used page) page in
    let whole : page ≡ records_bytes rs ++ (255 ∷ 255 ∷ rest) =
    good-bytes lim page b g ∙ ap (λ (l : List ℕ). l ++ rest) (program-records rs) ∙ append_assoc (records_bytes rs) (255 ∷ 255 ∷ []) rest in
    ap (take (used page - 2)) whole ∙ take_at (records_bytes rs) (255 ∷ 255 ∷ rest) (used page - 2) (omega (arith, records-length rs))

-- the pieces of a form one behind the other: each is put where the one before ends
module _ (c : RuleSet) (n : length c.vars ≡ 26) where
  abbrev pub head_of : List ℕ
  head_of = form_number ∷ 26 ∷ (values_bytes c.vars ++ two_bytes (length c.records))

  head-long : length head_of ≡ 56
  head-long = omega (arith, values_length c.vars, length-append (values_bytes c.vars) (two_bytes (length c.records)))

  pub form-pieces : (output : List ℕ) (at end : ℕ) → end ≡ length (records_bytes c.records)
      → sets (sets (sets output at head_of) (at + 56) (records_bytes c.records)) (at + 56 + end) (counted c.memory) ≡ sets output at (saved_form c)
  unfolding saved_form
  form-pieces output at end e =
      let rb : List ℕ = records_bytes c.records in
      let cm : List ℕ = counted c.memory in
      let whole : head_of ++ (rb ++ cm) ≡ saved_form c = ap (λ (l : List ℕ). form_number ∷ 26 ∷ l) (append_assoc (values_bytes c.vars) (two_bytes (length c.records)) (rb ++ cm)) in
      let first : at + length head_of ≡ at + 56 = ap (λ (k : ℕ). at + k) head-long in
      let last : at + 56 + length rb ≡ at + 56 + end = ap (λ (k : ℕ). at + 56 + k) (sym e) in
      sym (ap (sets output at) (sym whole)
      ∙ sets-append head_of (rb ++ cm) output at
      ∙ ap (λ (k : ℕ). sets (sets output at head_of) k (rb ++ cm)) first
      ∙ sets-append rb cm (sets output at head_of) (at + 56)
      ∙ ap (λ (k : ℕ). sets (sets (sets output at head_of) (at + 56) rb) k cm) last)

-- and of its head
pub head-pieces : (output vars : List ℕ) (at lines : ℕ) → length vars ≡ 26
    → sets (sets (set (set output at 1) (at + 1) 26) (at + 2) (values_bytes vars)) (at + 54) (two_bytes lines) ≡ sets output at (form_number ∷ 26 ∷ (values_bytes vars ++ two_bytes lines))
head-pieces output vars at lines n =
    let two : suc (suc at) ≡ at + 2 = omega arith in
    let one : suc at ≡ at + 1 = omega arith in
    let behind : suc (suc at) + length (values_bytes vars) ≡ at + 54 = omega (arith, values_length vars) in
    let head : List ℕ = set (set output at 1) (suc at) 26 in
    sym (sets-append (values_bytes vars) (two_bytes lines) head (suc (suc at))
    ∙ (λ i. sets (sets (set (set output at 1) (one i) 26) (two i) (values_bytes vars)) (behind i) (two_bytes lines)))

-- a slice's part is written over
pub part-put : (l v : List ℕ) (at : ℕ) {k : ℕ} → k ≡ length v → at + length v ≤ length l → put_mid at k l v ≡ sets l at v
part-put l v at e h = rw e (ap (λ (r : List ℕ). take at l ++ (v ++ r)) (drop-drop (length v) at l) ∙ sym (append_assoc (take at l) v (drop (at + length v) l)) ∙ sym (sets-eq v l at h))

-- bytes behind their count
pub counted-put : (l v : List ℕ) (at : ℕ) → sets (sets l at (two_bytes (length v))) (at + 2) v ≡ sets l at (counted v)
counted-put l v at = let two : at + 2 ≡ suc (suc at) = omega arith in ap (λ (k : ℕ). sets (sets l at (two_bytes (length v))) k v) two

-- records at a page's front, and the end mark behind them
pub program-put : (page records : List ℕ) → length records + 2 ≤ length page
    → set (set (records ++ drop (length records) page) (length records) 255) (length records + 1) 255 ≡ records ++ (255 ∷ 255 ∷ drop (length records + 2) page)
program-put page records h =
    let n : ℕ = length records in
    let next : n + 1 ≡ suc (0 + n) = omega arith in
    let last : 0 + length (records ++ (255 ∷ 255 ∷ [])) ≡ n + 2 = omega (arith, length-append records (255 ∷ 255 ∷ [])) in
    let two : n + 2 ≡ length (records ++ (255 ∷ 255 ∷ [])) = sym (length-append records (255 ∷ 255 ∷ [])) in
    let zero-add : 0 + n ≡ n = omega arith in
    let front : sets page 0 records ≡ records ++ drop n page = sets-eq records page 0 (omega arith) ∙ ap (λ (k : ℕ). records ++ drop k page) zero-add in
    (λ i. set (set (sym front i) (sym zero-add i) 255) (next i) 255)
    ∙ sym (sets-append records (255 ∷ 255 ∷ []) page 0)
    ∙ sets-eq (records ++ (255 ∷ 255 ∷ [])) page 0 (omega arith)
    ∙ append_assoc records (255 ∷ 255 ∷ []) (drop (0 + length (records ++ (255 ∷ 255 ∷ []))) page)
    ∙ ap (λ (k : ℕ). records ++ (255 ∷ 255 ∷ drop k page)) last
