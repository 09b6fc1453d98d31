-- A form is read as what it carries exactly where it is the form of that, by the tests that a page's records meet. Assumes nothing.
use Rattle.std.specs.Prelude.{if◌then◌else◌}
use Prim.Native.Nat.{ℕ, zero, suc, ◌+◌, ◌-◌, ◌*◌, ◌/◌, ◌%◌, ◌≤◌, ◌<◌}
use mathlib.Core.Path.{◌≡◌, refl, sym, ap, ◌∙◌, subst}
use mathlib.Core.Bool.{Bool, true, false, not, ◌&&◌, false≢true}
use mathlib.Core.List.{List, [], ◌∷◌, ◌++◌, append_assoc}
use native.Mathlib.Nat.{div-add-mod'}
use native.Mathlib.Omega.{arith}
use lib.ListN.{length, get_or, drop, length-append, length-drop}
use lib.Seq.{drop_at, drop-drop, get_or-drop, length-take-le, get_or-append-add}
use lib.Dec.{leb, eqb}
use borrow.Author.Tests.{le-leb, leb-true, eqb-true, eq-eqb}
use Rattle.nibl.specs.Values.{Result, is, no}
use Rattle.nibl.specs.Page.{Stored, record_bytes, line_at, length_at, text_at, is_record}
use Rattle.page.specs.Standing.{Bytes}
use Rattle.page.proofs.Walk.{by_cases}
use Rattle.page.proofs.Program.{Program, none, each, both, record-known, front-line, front-text, front_rest, front-record}
use Rattle.page.proofs.Laid.{whole-text, record-bytes, text-room}
use Rattle.nibl.specs.Saved.{RuleSet, values_bytes, records_bytes, counted, saved_form}
use Rattle.nibl.specs.found.Form.{values_in, Parted, broken, parted, behind, records_in, is_counted, carried_by, form_in}

-- a rule set that has a form: 26 values, a good page's records, and bytes
pub record Formed (lim : ℕ) (c : RuleSet) : Type 0 where
  pub vars : length c.vars ≡ 26
  pub values : (i : ℕ) → get_or c.vars i 0 < 65536
  pub program : Program lim 0 c.records
  pub bytes : Bytes c.memory
  pub short : length c.memory < 65536

-- a part of bytes
pub bytes-from : (n : ℕ) (q : List ℕ) → Bytes q → Bytes (drop n q)
bytes-from n q b j = rw (get_or-drop n q j 0) (b (n + j))

pub bytes-behind : (u q : List ℕ) → Bytes (u ++ q) → Bytes q
bytes-behind u q b j = subst (λ (x : ℕ). x < 256) (get_or-append-add u q j 0) (b (length u + j))

-- Values
pub values_length : (vs : List ℕ) → length (values_bytes vs) ≡ 2 * length vs
values_length [] = refl
values_length (v ∷ vs) = omega (arith, values_length vs)

pub values-back : (vs rest : List ℕ) → values_in (length vs) (values_bytes vs ++ rest) ≡ vs
values-back [] rest = refl
values-back (v ∷ vs) rest = λ i. div-add-mod' v 256 i ∷ values-back vs rest i

values-are : (k : ℕ) (s : List ℕ) → Bytes s → 2 * k ≤ length s → s ≡ values_bytes (values_in k s) ++ drop (2 * k) s
values-are zero s b h = refl
values-are (suc k) [] b h = absurd (omega arith)
values-are (suc k) (x ∷ []) b h = absurd (omega arith)
values-are (suc k) (x ∷ y ∷ s) b h =
    let low : y < 256 = b 1 in
    let p : x ≡ (x * 256 + y) / 256 = omega arith in
    let q : y ≡ (x * 256 + y) % 256 = omega arith in
    let n : 2 * suc k ≡ suc (suc (2 * k)) = omega arith in
    (λ i. p i ∷ q i ∷ values-are k s (λ j. b (suc (suc j))) (omega arith) i)
    ∙ ap (λ (m : ℕ). values_bytes (values_in (suc k) (x ∷ y ∷ s)) ++ drop m (x ∷ y ∷ s)) (sym n)

values-small : (k : ℕ) (s : List ℕ) → Bytes s → (i : ℕ) → get_or (values_in k s) i 0 < 65536
values-small zero s b i = omega arith
values-small (suc k) s b zero = omega (arith, b 0, b 1)
values-small (suc k) s b (suc i) = values-small k (drop 2 s) (λ j. rw (get_or-drop 2 s j 0) (b (2 + j))) i

values-count : (k : ℕ) (s : List ℕ) → length (values_in k s) ≡ k
values-count zero s = refl
values-count (suc k) s = ap suc (values-count k (drop 2 s))

-- Records
module _ (lim : ℕ) where
  pub records-split : {low : ℕ} {rs : List Stored} (rest : List ℕ) → Program lim low rs → records_in lim (length rs) low (records_bytes rs ++ rest) ≡ parted rs rest
  unfolding records_in
  records-split rest none = refl
  records-split {low} rest (each {r = r} {rs = rs} l s p) =
      let more : List ℕ = records_bytes rs ++ rest in
      ap (records_in lim (suc (length rs)) low) (append_assoc (record_bytes r) (records_bytes rs) rest)
      ∙ rw (front-record r more lim low l s, records_in, front-line r more, front-text r more, front_rest r more) (ap (behind r) (records-split rest p))

  pub record Split (k low : ℕ) (q : List ℕ) (rs : List Stored) (rest : List ℕ) : Type 0 where
    pub bytes : q ≡ records_bytes rs ++ rest
    pub count : length rs ≡ k
    pub program : Program lim low rs

  pub data Known (k low : ℕ) (q : List ℕ) : Parted → Type 0 where
    unread : Known k low q broken
    read : {rs : List Stored} {rest : List ℕ} → Split k low q rs rest → Known k low q (parted rs rest)

  -- one record more in front
  module _ (k low : ℕ) (q : List ℕ) (b : Bytes q) (h : is_record lim low q ≡ true) where
    abbrev front : Stored
    front = record { line = line_at q; text = text_at q }

    known_more : (p : Parted) → Known k (suc (line_at q)) (drop (length_at q) q) p → Known (suc k) low q (behind front p)
    known_more broken unread = unread
    known_more (parted rs rest) (read s) =
        let w = record-known lim low q h in
        let long : length (text_at q) ≡ length_at q - 4 = length-take-le (length_at q - 4) (drop 3 q) (omega (arith, length-drop 3 q, w.1.1.1.0)) in
        let five = w.1.1.0 in
        let text = whole-text q five w.1.1.1.0 w.1.1.1.1.0 in
        let is = record-bytes q front (drop (length_at q) q) b refl (omega arith) text in
        read (record {
          bytes = is ∙ ap (λ (l : List ℕ). record_bytes front ++ l) s.bytes ∙ sym (append_assoc (record_bytes front) (records_bytes rs) rest);
          count = ap suc s.count;
          program = each {r = front} w.0 (record { number = w.1.0; some = omega arith; short = text-room q (omega (arith, b 2)); text = w.1.1.1.1.1 }) s.program;
        })

  pub records-known : (k low : ℕ) (q : List ℕ) → Bytes q → Known k low q (records_in lim k low q)
  unfolding records_in
  records-known zero low q b = read (record { bytes = refl; count = refl; program = none })
  records-known (suc k) low q b =
      by_cases (is_record lim low q)
      (λ h. rw (h, records_in) (known_more k low q b h _ (records-known k (suc (line_at q)) (drop (length_at q) q) (bytes-from (length_at q) q b))))
      (λ h. rw (h, records_in) unread)

-- The whole form
module _ (lim : ℕ) (c : RuleSet) (h : Formed lim c) where
  abbrev lines : List ℕ
  lines = length c.records / 256 ∷ length c.records % 256 ∷ (records_bytes c.records ++ counted c.memory)

  vars-long : length (values_bytes c.vars) ≡ 52
  vars-long = omega (arith, values_length c.vars, h.vars)

  -- "Load after save": what was saved is read as what was carried
  pub form-complete : form_in lim (saved_form c) ≡ is c
  unfolding form_in saved_form
  form-complete =
      let vs : List ℕ = values_bytes c.vars in
      let long : 56 ≤ length (1 ∷ 26 ∷ (vs ++ lines)) = omega (arith, length-append vs lines, vars-long) in
      let a : drop 54 (1 ∷ 26 ∷ (vs ++ lines)) ≡ lines = drop_at vs lines 52 vars-long in
      let b : drop 56 (1 ∷ 26 ∷ (vs ++ lines)) ≡ records_bytes c.records ++ counted c.memory = sym (drop-drop 2 54 (1 ∷ 26 ∷ (vs ++ lines))) ∙ ap (drop 2) a in
      let n : line_at lines ≡ length c.records = div-add-mod' (length c.records) 256 in
      let v : values_in 26 (vs ++ lines) ≡ c.vars = ap (λ (k : ℕ). values_in k (vs ++ lines)) (sym h.vars) ∙ values-back c.vars lines in
      let m : line_at (counted c.memory) ≡ length c.memory = div-add-mod' (length c.memory) 256 in
      rw (le-leb 1 (length (1 ∷ 26 ∷ (vs ++ lines))) (omega arith), le-leb 56 (length (1 ∷ 26 ∷ (vs ++ lines))) long, a, b, n, v, records-split lim (counted c.memory) h.program, le-leb 2 (length (counted c.memory)) (omega arith), eq-eqb (length (counted c.memory)) (line_at (counted c.memory) + 2) (omega arith))

-- "a loaded form saves to the same bytes": a form that is read is what its reading is saved as
module _ (lim : ℕ) (s : List ℕ) (b : Bytes s) where
  pub record Form (c : RuleSet) : Type 0 where
    pub same : s ≡ saved_form c
    pub sound : Formed lim c

  counted_is : (q : List ℕ) → Bytes q → is_counted q ≡ true → (q ≡ counted (drop 2 q)) × (length (drop 2 q) < 65536)
  counted_is [] b e = absurd (false≢true e)
  counted_is (x ∷ []) b e = absurd (false≢true e)
  counted_is (x ∷ y ∷ q) b e =
      let n : suc (suc (length q)) ≡ x * 256 + y + 2 = eqb-true _ _ (both (leb 2 (suc (suc (length q)))) _ e).1 in
      let low : y < 256 = b 1 in
      let high : x < 256 = b 0 in
      let p : x ≡ length q / 256 = omega arith in
      let r : y ≡ length q % 256 = omega arith in
      (λ i. p i ∷ r i ∷ q, omega arith)

  -- by the first tests
  first_two : 56 ≤ length s → get_or s 0 0 ≡ 1 → get_or s 1 0 ≡ 26 → s ≡ 1 ∷ 26 ∷ drop 2 s
  first_two = by s where
    by : (t : List ℕ) → 56 ≤ length t → get_or t 0 0 ≡ 1 → get_or t 1 0 ≡ 26 → t ≡ 1 ∷ 26 ∷ drop 2 t
    by [] l e f = absurd (omega arith)
    by (x ∷ []) l e f = absurd (omega arith)
    by (x ∷ y ∷ t) l e f = λ i. e i ∷ f i ∷ t

  abbrev carried_or : RuleSet → Result RuleSet → RuleSet
  carried_or d (is c) = c
  carried_or d (no n) = d

  abbrev is_read : Result RuleSet → Bool
  is_read (is c) = true
  is_read (no n) = false

  module _ (l : 56 ≤ length s) (e : get_or s 0 0 ≡ 1) (f : get_or s 1 0 ≡ 26) where
    form-bytes : (rs : List Stored) (q : List ℕ) → drop 56 s ≡ records_bytes rs ++ q → length rs ≡ line_at (drop 54 s) → q ≡ counted (drop 2 q)
        → s ≡ saved_form (record { vars = values_in 26 (drop 2 s); records = rs; memory = drop 2 q })
    unfolding saved_form
    form-bytes rs q d n m =
        let v = values-are 26 (drop 2 s) (bytes-from 2 s b) (omega (arith, length-drop 2 s)) in
        let w = values-are 1 (drop 54 s) (bytes-from 54 s b) (omega (arith, length-drop 54 s)) in
        let vs : List ℕ = values_bytes (values_in 26 (drop 2 s)) in
        let lines : drop 52 (drop 2 s) ≡ length rs / 256 ∷ length rs % 256 ∷ (records_bytes rs ++ counted (drop 2 q)) =
        drop-drop 52 2 s ∙ w ∙ (λ i. sym n i / 256 ∷ sym n i % 256 ∷ (drop-drop 2 54 s ∙ d ∙ ap (λ (t : List ℕ). records_bytes rs ++ t) m) i) in
        first_two l e f ∙ ap (λ (t : List ℕ). 1 ∷ 26 ∷ t) (v ∙ ap (λ (t : List ℕ). vs ++ t) lines)

    form-from : (c : RuleSet) (p : Parted) → Known lim (line_at (drop 54 s)) 0 (drop 56 s) p → carried_by (values_in 26 (drop 2 s)) p ≡ is c → Form c
    form-from c broken k h = absurd (false≢true (ap is_read h))
    form-from c (parted rs q) (read k) h = by (is_counted q) refl h where
      read_as : RuleSet
      read_as = record { vars = values_in 26 (drop 2 s); records = rs; memory = drop 2 q }

      by : (t : Bool) → is_counted q ≡ t → ◌≡◌ {A = Result RuleSet} (if t then is read_as else no 23) (is c) → Form c
      by false i h = absurd (false≢true (ap is_read h))
      by true i h =
          let bq : Bytes q = bytes-behind (records_bytes rs) q (subst Bytes k.bytes (bytes-from 56 s b)) in
          let m = counted_is q bq i in
          let v = values-are 26 (drop 2 s) (bytes-from 2 s b) (omega (arith, length-drop 2 s)) in
          let n = values-are 1 (drop 54 s) (bytes-from 54 s b) (omega (arith, length-drop 54 s)) in
          let d52 : drop 52 (drop 2 s) ≡ drop 54 s = drop-drop 52 2 s in
          let d2 : drop 2 (drop 54 s) ≡ drop 56 s = drop-drop 2 54 s in
          let same : s ≡ saved_form read_as = form-bytes rs q k.bytes k.count m.0 in
          subst Form (ap (carried_or read_as) h) (record {
            same = same;
            sound = record {
              vars = values-count 26 (drop 2 s);
              values = values-small 26 (drop 2 s) (bytes-from 2 s b);
              program = k.program;
              bytes = bytes-from 2 q bq;
              short = m.1;
            };
          })

  -- a form that is read is what its reading is saved as
  pub form-sound : (c : RuleSet) → form_in lim s ≡ is c → Form c
  unfolding form_in
  form-sound c h = by (leb 1 (length s) && eqb (get_or s 0 0) 1) refl (leb 56 (length s) && eqb (get_or s 1 0) 26) refl h where
    rest : Result RuleSet
    rest = carried_by (values_in 26 (drop 2 s)) (records_in lim (line_at (drop 54 s)) 0 (drop 56 s))

    by : (t : Bool) → (leb 1 (length s) && eqb (get_or s 0 0) 1) ≡ t → (u : Bool) → (leb 56 (length s) && eqb (get_or s 1 0) 26) ≡ u
        → ◌≡◌ {A = Result RuleSet} (if not t then no 22 else if not u then no 23 else rest) (is c) → Form c
    by false p u q h = absurd (false≢true (ap is_read h))
    by true p false q h = absurd (false≢true (ap is_read h))
    by true p true q h =
        let x = both (leb 1 (length s)) (eqb (get_or s 0 0) 1) p in
        let y = both (leb 56 (length s)) (eqb (get_or s 1 0) 26) q in
        form-from (leb-true 56 (length s) y.0) (eqb-true (get_or s 0 0) 1 x.1) (eqb-true (get_or s 1 0) 26 y.1) c _
        (records-known lim (line_at (drop 54 s)) 0 (drop 56 s) (bytes-from 56 s b)) h
