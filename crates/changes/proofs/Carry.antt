-- Item 5, the two calls: what each leaves exactly, refusal by refusal; that what was saved is loaded, and what was loaded saves to the same
-- bytes. Assumes nothing.
use Rattle.std.specs.Prelude.{if◌then◌else◌}
use Prim.Native.Nat.{ℕ, suc, ◌+◌, ◌-◌, ◌≤◌, ◌<◌}
use mathlib.Core.Path.{◌≡◌, refl, sym, ap, subst, ◌∙◌}
use mathlib.Core.Bool.{Bool, true, false, not, false≢true}
use mathlib.Core.List.{List, [], ◌∷◌, ◌++◌, append_assoc}
use mathlib.Core.Logic.{◌↔◌}
use native.Mathlib.Omega.{arith}
use lib.ListN.{length, take, drop}
use lib.Seq.{sets, sets-eq, take_at, drop_at, length-take-le}
use lib.Dec.{leb, eqb}
use borrow.Author.Tests.{leb-true, leb-false, le-leb, lt-leb, eqb-true, eqb-false, eq-eqb, ne_eqb}
use Rattle.nibl.specs.Values.{Result, is, no}
use Rattle.nibl.specs.Typing.{limit}
use Rattle.nibl.specs.Page.{line_at, is_good, fits, program_bytes}
use Rattle.nibl.specs.Saved.{RuleSet, form_number, saved_form}
use Rattle.nibl.specs.found.Form.{has_number, has_values, Parted, broken, parted, is_counted, carried_by, values_in, records_in, form_in}
use Rattle.nibl.specs.Lent.{Lent, Left, unchanged}
use Rattle.nibl.specs.FirstRefusals.{page_in_range, memory_in_range, output_in_range}
use Rattle.nibl.specs.Carry.{rule_set_of, save_in_range, saved, saves_in, saves, load_in_range, loaded, loads_form, loads_in, loads}
use Rattle.page.specs.Standing.{Bytes}
use Rattle.page.proofs.Program.{both}
use Rattle.page.proofs.Forms.{form-complete}
use Rattle.demands.specs.Lent.{OneOfThese}
use Rattle.demands.specs.Good.{GoodPage, Fits}
use Rattle.demands.specs.Listing.{written}
use Rattle.demands.proofs.Good.{fits-exact}
use Rattle.demands.proofs.ByGrammar.{a-good-page}
use Rattle.demands.proofs.Accepted.{table-range-of, table-range-is}
use Rattle.changes.specs.Carry.{SaveRange, SavesAs, save_out_of_range, bad_page, bad_record, no_room, writes}
use Rattle.changes.specs.Carry.{LoadRange, Brings, LoadsAs, load_out_of_range, other_form, bad_form, other_memory, page_full, takes}
use Rattle.changes.proofs.Forms.{form-exact, carryable-formed}

-- The ranges
module _ (x : Lent) where
  save-range-of : save_in_range x ≡ true → SaveRange x
  save-range-of h =
      let p = both (page_in_range (length x.page)) _ h in
      let a = both (leb 2 (length x.page)) _ p.0 in
      let m = both (memory_in_range (length x.memory)) _ p.1 in
      let o = both (output_in_range (length x.output)) _ m.1 in
      record { some = leb-true _ _ a.0; page = leb-true _ _ a.1; memory = leb-true _ _ m.0; output = leb-true _ _ o.0; outpos = leb-true _ _ o.1 }

  save-range-is : SaveRange x → save_in_range x ≡ true
  save-range-is r =
      rw (
        le-leb 2 (length x.page) r.some,
        le-leb (length x.page) 4096 r.page,
        le-leb (length x.memory) 4096 r.memory,
        le-leb (length x.output) 65535 r.output,
        le-leb x.call.outpos (length x.output) r.outpos,
      )

  load-range-of : load_in_range x ≡ true → LoadRange x
  load-range-of h =
      let p = both (page_in_range (length x.page)) _ h in
      let a = both (leb 2 (length x.page)) _ p.0 in
      let m = both (memory_in_range (length x.memory)) _ p.1 in
      record { some = leb-true _ _ a.0; page = leb-true _ _ a.1; memory = leb-true _ _ m.0; table = table-range-of x m.1 }

  load-range-is : LoadRange x → load_in_range x ≡ true
  load-range-is r =
      rw (
        le-leb 2 (length x.page) r.some,
        le-leb (length x.page) 4096 r.page,
        le-leb (length x.memory) 4096 r.memory,
        table-range-is x r.table,
      )

-- a result is one or the other
abbrev refusal : Result RuleSet → ℕ
refusal (is c) = 0
refusal (no n) = 1

-- a test that does not hold
not-true : {A : Type 0} (b : Bool) → (b ≡ true → A) → (A → ⊥) → b ≡ false
not-true true f n = absurd (n (f refl))
not-true false f n = refl

-- an item that has room stands in the output from its position on
form-written : (output : List ℕ) (p : ℕ) (bs : List ℕ) → p + length bs ≤ length output → take (p + length bs - p) (drop p (sets output p bs)) ≡ bs
form-written output p bs h =
    let f : p + length bs - p ≡ length bs = omega arith in
    rw (f, sets-eq bs output p h, append_assoc (take p output) bs (drop (p + length bs) output))
    (ap (take (length bs)) (drop_at (take p output) (bs ++ drop (p + length bs) output) p (length-take-le p output (omega arith)))
    ∙ take_at bs (drop (p + length bs) output) (length bs) refl)

-- What a save leaves
module _ (x : Lent) where
  abbrev form : List ℕ
  form = saved_form (rule_set_of x)

  good-not : (GoodPage limit x.page → ⊥) → is_good limit x.page ≡ false
  good-not = not-true (is_good limit x.page) (a-good-page x.page).0

  good-is : GoodPage limit x.page → is_good limit x.page ≡ true
  good-is = (a-good-page x.page).1

  fits_not : GoodPage limit x.page → (Fits x.page x.session → ⊥) → fits x.page x.session ≡ false
  fits_not g = not-true (fits x.page x.session) (fits-exact limit (omega arith) x.page g x.session).0

  fits-is : GoodPage limit x.page → Fits x.page x.session → fits x.page x.session ≡ true
  fits-is g = (fits-exact limit (omega arith) x.page g x.session).1

  saves-so : SavesAs x (saves x)
  unfolding saves saves_in
  saves-so = by (save_in_range x) refl (is_good limit x.page) refl (fits x.page x.session) refl (leb (x.call.outpos + length form) (length x.output)) refl where
    by : (a : Bool) → save_in_range x ≡ a → (b : Bool) → is_good limit x.page ≡ b → (c : Bool) → fits x.page x.session ≡ c
        → (d : Bool) → leb (x.call.outpos + length form) (length x.output) ≡ d
        → SavesAs x (if not a then unchanged x 1 else if not b then unchanged x 18 else if not c then unchanged x 19 else if not d then unchanged x 17 else saved x form)
    by false p b q c r d s = save_out_of_range (λ k. false≢true (sym p ∙ save-range-is x k))
    by true p false q c r d s = bad_page (save-range-of x p) (λ g. false≢true (sym q ∙ good-is g))
    by true p true q false r d s =
        let g = (a-good-page x.page).0 q in bad_record (save-range-of x p) g (λ f. false≢true (sym r ∙ fits-is g f))
    by true p true q true r false s =
        let g = (a-good-page x.page).0 q in
        no_room (save-range-of x p) g ((fits-exact limit (omega arith) x.page g x.session).0 r) (leb-false _ _ s)
    by true p true q true r true s =
        let g = (a-good-page x.page).0 q in
        writes (save-range-of x p) g ((fits-exact limit (omega arith) x.page g x.session).0 r) (leb-true _ _ s)

  pub saves-back : {u : Left} → SavesAs x u → saves x ≡ u
  unfolding saves saves_in
  saves-back (save_out_of_range n) = rw (not-true (save_in_range x) (save-range-of x) n)
  saves-back (bad_page r n) = rw (save-range-is x r, good-not n)
  saves-back (bad_record r g n) = rw (save-range-is x r, good-is g, fits_not g n)
  saves-back (no_room r g f l) = rw (save-range-is x r, good-is g, fits-is g f, lt-leb (x.call.outpos + length form) (length x.output) l)
  saves-back (writes r g f l) = rw (save-range-is x r, good-is g, fits-is g f, le-leb (x.call.outpos + length form) (length x.output) l)

  -- every stop of a save exactly, with all that is left
  pub save-exact : (u : Left) → (saves x ≡ u) ↔ SavesAs x u
  save-exact u = (λ e. subst (SavesAs x) e saves-so, saves-back)

  -- "for saving: 1, 18, 19, 17": no other stop but 0
  pub save-numbered : OneOfThese (0 ∷ 1 ∷ 17 ∷ 18 ∷ 19 ∷ []) (saves x).outcome.answer.stop
  save-numbered = by saves-so where
    by : {u : Left} → SavesAs x u → OneOfThese (0 ∷ 1 ∷ 17 ∷ 18 ∷ 19 ∷ []) u.outcome.answer.stop
    by (save_out_of_range n) = refl
    by (bad_page r n) = refl
    by (bad_record r g n) = refl
    by (no_room r g f l) = refl
    by (writes r g f l) = refl

  -- what a save that is done was lent, and leaves
  pub record SaveDone : Type 0 where
    pub range : SaveRange x
    pub good : GoodPage limit x.page
    pub fits : Fits x.page x.session
    pub room : x.call.outpos + length (saved_form (rule_set_of x)) ≤ length x.output
    pub leaves : saves x ≡ saved x (saved_form (rule_set_of x))

  pub save-done : (saves x).outcome.answer.stop ≡ 0 → SaveDone
  save-done = by saves-so refl where
    by : {u : Left} → SavesAs x u → saves x ≡ u → (saves x).outcome.answer.stop ≡ 0 → SaveDone
    by (save_out_of_range n) e z = absurd (omega (arith, ap (λ (v : Left). v.outcome.answer.stop) e))
    by (bad_page r n) e z = absurd (omega (arith, ap (λ (v : Left). v.outcome.answer.stop) e))
    by (bad_record r g n) e z = absurd (omega (arith, ap (λ (v : Left). v.outcome.answer.stop) e))
    by (no_room r g f l) e z = absurd (omega (arith, ap (λ (v : Left). v.outcome.answer.stop) e))
    by (writes r g f l) e z = record { range = r; good = g; fits = f; room = l; leaves = e }

  -- "A save writes to the output": the form whole at its position, and nothing else is changed, the pause neither
  pub save-writes : (saves x).outcome.answer.stop ≡ 0 → (saves x ≡ saved x (saved_form (rule_set_of x))) × (written x (saves x).outcome ≡ saved_form (rule_set_of x))
  save-writes z = let d = save-done z in (d.leaves, ap (λ (u : Left). written x u.outcome) d.leaves ∙ form-written x.output x.call.outpos (saved_form (rule_set_of x)) d.room)

-- What a slice is read as
data FormRead (s : List ℕ) : Result RuleSet → Type 0 where
  other_number : has_number s ≡ false → FormRead s (no 22)
  wrong : has_number s ≡ true → FormRead s (no 23)
  carries : {c : RuleSet} → FormRead s (is c)

form-read : (lim : ℕ) (s : List ℕ) → FormRead s (form_in lim s)
unfolding form_in
form-read lim s = by (has_number s) refl (has_values s) where
  behind-read : has_number s ≡ true → (vars : List ℕ) (p : Parted) → FormRead s (carried_by vars p)
  behind-read n vars broken = wrong n
  behind-read n vars (parted rs q) = counted (is_counted q) where
    counted : (b : Bool) → FormRead s (if b then is (record { vars = vars; records = rs; memory = drop 2 q }) else no 23)
    counted true = carries
    counted false = wrong n

  by : (a : Bool) → has_number s ≡ a → (b : Bool)
      → FormRead s (if not a then no 22 else if not b then no 23 else carried_by (values_in 26 (drop 2 s)) (records_in lim (line_at (drop 54 s)) 0 (drop 56 s)))
  by false n b = other_number n
  by true n false = wrong n
  by true n true = behind-read n (values_in 26 (drop 2 s)) (records_in lim (line_at (drop 54 s)) 0 (drop 56 s))

-- "another form number or none"
numbered : (s : List ℕ) → has_number s ≡ true → s ≡ form_number ∷ drop 1 s
numbered [] e = absurd (false≢true e)
numbered (b ∷ s) e = λ i. eqb-true b 1 (both (leb 1 (suc (length s))) _ e).1 i ∷ s

number_of : (s t : List ℕ) → s ≡ form_number ∷ t → has_number s ≡ true
number_of s t e = ap has_number e ∙ rw (le-leb 1 (suc (length t)) (omega arith))

-- the form of a rule set has the form's number
brought-number : {s : List ℕ} (c : RuleSet) → s ≡ saved_form c → has_number s ≡ true
unfolding saved_form
brought-number c e = number_of _ _ e

-- What a load leaves
module _ (x : Lent) where
  brings-form : (c : RuleSet) → Brings x c → form_in limit x.input ≡ is c
  brings-form c b = rw b.form (form-complete limit c (carryable-formed limit (omega arith) b.carryable))

  -- by a form that is brought
  module _ (c : RuleSet) (b : Brings x c) where
    brings-loads : loads x ≡ loads_form x (is c)
    unfolding loads loads_in
    brings-loads = rw (load-range-is x b.range) (ap (loads_form x) (brings-form c b))

    other-is-24 : (length c.memory ≡ length x.memory → ⊥) → loads x ≡ unchanged x 24
    other-is-24 n = brings-loads ∙ rw (ne_eqb (length c.memory) (length x.memory) n)

    module _ (m : length c.memory ≡ length x.memory) where
      full-is-2 : length x.page < length (program_bytes c.records) → loads x ≡ unchanged x 2
      full-is-2 l = brings-loads ∙ rw (eq-eqb (length c.memory) (length x.memory) m, lt-leb (length (program_bytes c.records)) (length x.page) l)

      pub taken-is-0 : length (program_bytes c.records) ≤ length x.page → loads x ≡ loaded x c
      taken-is-0 l = brings-loads ∙ rw (eq-eqb (length c.memory) (length x.memory) m, le-leb (length (program_bytes c.records)) (length x.page) l)

  module _ (bytes : Bytes x.input) where
    brings : (c : RuleSet) → LoadRange x → form_in limit x.input ≡ is c → Brings x c
    brings c r e = let k = (form-exact limit (omega arith) x.input bytes c).0 e in record { range = r; carryable = k.1; form = k.0 }

    pub loads-so : LoadsAs x (loads x)
    unfolding loads loads_in
    loads-so = by (load_in_range x) refl where
      taken : (c : RuleSet) → Brings x c → (a : Bool) → eqb (length c.memory) (length x.memory) ≡ a
          → (b : Bool) → leb (length (program_bytes c.records)) (length x.page) ≡ b
          → LoadsAs x (if not a then unchanged x 24 else if not b then unchanged x 2 else loaded x c)
      taken c k false p b q = other_memory c k (eqb-false _ _ p)
      taken c k true p false q = page_full c k (eqb-true _ _ p) (leb-false _ _ q)
      taken c k true p true q = takes c k (eqb-true _ _ p) (leb-true _ _ q)

      read : LoadRange x → (r : Result RuleSet) → form_in limit x.input ≡ r → FormRead x.input r → LoadsAs x (loads_form x r)
      read l (no m) e (other_number n) = other_form l (λ s f. false≢true (sym n ∙ number_of x.input s f))
      read l (no m) e (wrong n) =
          bad_form l (drop 1 x.input) (numbered x.input n) (λ c b. let z : ◌≡◌ {A = ℕ} 0 1 = ap refusal (sym (brings-form c b) ∙ e) in omega arith)
      read l (is c) e carries = taken c (brings c l e) (eqb (length c.memory) (length x.memory)) refl (leb (length (program_bytes c.records)) (length x.page)) refl

      by : (a : Bool) → load_in_range x ≡ a → LoadsAs x (if not a then unchanged x 1 else loads_form x (form_in limit x.input))
      by false p = load_out_of_range (λ r. false≢true (sym p ∙ load-range-is x r))
      by true p = read (load-range-of x p) (form_in limit x.input) refl (form-read limit x.input)

    loads-back : {u : Left} → LoadsAs x u → loads x ≡ u
    unfolding loads loads_in
    loads-back (load_out_of_range n) = rw (not-true (load_in_range x) (load-range-of x) n)
    loads-back (other_form r n) = rw (load-range-is x r) (ap (loads_form x) (by (form_in limit x.input) refl (form-read limit x.input))) where
      by : (f : Result RuleSet) → form_in limit x.input ≡ f → FormRead x.input f → form_in limit x.input ≡ no 22
      by (no m) e (other_number k) = e
      by (no m) e (wrong k) = absurd (n (drop 1 x.input) (numbered x.input k))
      by (is c) e carries = absurd (n (drop 1 x.input) (numbered x.input (brought-number c (brings c r e).form)))
    loads-back (bad_form r s f n) = rw (load-range-is x r) (ap (loads_form x) (by (form_in limit x.input) refl (form-read limit x.input))) where
      by : (g : Result RuleSet) → form_in limit x.input ≡ g → FormRead x.input g → form_in limit x.input ≡ no 23
      by (no m) e (other_number k) = absurd (false≢true (sym k ∙ number_of x.input s f))
      by (no m) e (wrong k) = e
      by (is c) e carries = absurd (n c (brings c r e))
    loads-back (other_memory c b n) = other-is-24 c b n
    loads-back (page_full c b m l) = full-is-2 c b m l
    loads-back (takes c b m l) = taken-is-0 c b m l

    -- every stop of a load exactly, with all that is left
    pub load-exact : (u : Left) → (loads x ≡ u) ↔ LoadsAs x u
    load-exact u = (λ e. subst (LoadsAs x) e loads-so, loads-back)

    -- "for loading: 1, then 22 .., 23 .., 24 .., 2": no other stop but 0
    pub load-numbered : OneOfThese (0 ∷ 1 ∷ 2 ∷ 22 ∷ 23 ∷ 24 ∷ []) (loads x).outcome.answer.stop
    load-numbered = by loads-so where
      by : {u : Left} → LoadsAs x u → OneOfThese (0 ∷ 1 ∷ 2 ∷ 22 ∷ 23 ∷ 24 ∷ []) u.outcome.answer.stop
      by (load_out_of_range n) = refl
      by (other_form r n) = refl
      by (bad_form r s f n) = refl
      by (other_memory c b n) = refl
      by (page_full c b m l) = refl
      by (takes c b m l) = refl
