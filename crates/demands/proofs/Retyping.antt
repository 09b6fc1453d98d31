-- "Retyping replaces". Assumes nothing.
use Rattle.std.specs.Prelude.{if◌then◌else◌}
use Prim.Native.Nat.{ℕ, suc, ◌+◌, ◌≤◌, ◌<◌}
use mathlib.Core.Path.{◌≡◌, refl, sym, ap, ◌∙◌}
use mathlib.Core.Bool.{Bool, true, false, ◌||◌, true≢false}
use mathlib.Core.List.{List, [], ◌∷◌}
use mathlib.Core.Option.{some}
use native.Mathlib.Omega.{arith}
use lib.ListN.{length, drop, length-append, length-drop}
use lib.Seq.{drop-append_seam, take_at}
use lib.Dec.{ltb, eqb}
use borrow.Author.Tests.{ltb-true, eqb-true, eqb-false, le-leb, lt-leb, eq-eqb, ne_eqb}
use Rattle.nibl.specs.Tree.{Member, Typed, new, delete, store}
use Rattle.nibl.specs.found.Read.{typed}
use Rattle.nibl.specs.Readings.{LineReading}
use Rattle.nibl.specs.Typing.{Gathered}
use Rattle.nibl.specs.Page.{Stored, program_bytes, records_of, size, used, used_by, has_line, with, without, onto}
use Rattle.nibl.specs.Lent.{Lent, stops}
use Rattle.nibl.specs.Typing.{limit}
use Rattle.nibl.specs.Lent.{begun, lent_env}
use Rattle.nibl.specs.Calls.{edited, obey, take_line, take_line_in, leaves}
use Rattle.nibl.specs.Record.{stackless}
use Rattle.nibl.specs.Meaning.{World, with_session}
use Rattle.nibl.proofs.Whole.{typed-complete}
use Rattle.letter.proofs.Typed.{taken}
use Rattle.page.proofs.Walk.{by_cases}
use Rattle.page.proofs.Program.{Program, none, each, program-length}
use Rattle.page.proofs.Laid.{Laid, laid-program, laid-room, good-laid}
use Rattle.page.proofs.Changes.{with-program, without-program, onto-good, onto-records}
use Rattle.page.proofs.Tables.{good-rising}
use Rattle.demands.specs.Lent.{Typing}
use Rattle.demands.specs.Leaves.{records_of_line, others, line_taken, Edits, Replaces, Deletes}
use Rattle.demands.proofs.Storing.{stored-storable}
use Rattle.demands.proofs.Good.{good-exact}
use Rattle.demands.proofs.Accepted.{accepted-of}
use Rattle.demands.proofs.Tables.{left-kept}

-- what a line that was read does
pub line_read : (x : Lent) (g : Gathered) (y : Typed) → Typing limit x g → typed g.line.bytes ≡ some y
    → take_line x ≡ obey x.call.budget (lent_env limit x) (begun x g.taken) y
unfolding take_line take_line_in
line_read x g y h e = rw (h.sound, take_line_in) (rw h.line (rw h.short (rw e)))

-- The records after an edit
module _ (n : ℕ) where
  none_of : {lim low : ℕ} {rs : List Stored} → n < low → Program lim low rs → records_of_line n rs ≡ []
  none_of h none = refl
  none_of h (each {r = r} l s p) = rw (ne_eqb r.line n (λ e. omega arith)) (none_of (omega arith) p)

  all-other : {lim low : ℕ} {rs : List Stored} → n < low → Program lim low rs → others n rs ≡ rs
  all-other h none = refl
  all-other h (each {r = r} l s p) = rw (ne_eqb r.line n (λ e. omega arith)) (ap (λ (rs : List Stored). r ∷ rs) (all-other (omega arith) p))

  -- a record taken out
  pub without-none : {lim low : ℕ} {rs : List Stored} → Program lim low rs → records_of_line n (without n rs) ≡ []
  without-none none = refl
  without-none (each {r = r} {rs = rs} l s p) =
      by_cases (eqb r.line n)
      (λ e. rw (e, if◌then◌else◌) (none_of (omega (arith, eqb-true r.line n e)) p))
      (λ e. rw (e, if◌then◌else◌) (rw e (without-none p)))

  pub without-others : {lim low : ℕ} {rs : List Stored} → Program lim low rs → without n rs ≡ others n rs
  without-others none = refl
  without-others (each {r = r} {rs = rs} l s p) =
      by_cases (eqb r.line n)
      (λ e. rw (e, if◌then◌else◌) (sym (all-other (omega (arith, eqb-true r.line n e)) p)))
      (λ e. rw (e, if◌then◌else◌) (ap (λ (rs : List Stored). r ∷ rs) (without-others p)))

  pub others-short : (rs : List Stored) → used_by (others n rs) ≤ used_by rs
  others-short [] = omega arith
  others-short (r ∷ rs) = by_cases (eqb r.line n) (λ e. rw (e, if◌then◌else◌) (omega (arith, others-short rs))) (λ e. rw (e, if◌then◌else◌) (omega (arith, others-short rs)))

  -- a record that was not there is not among those of a number
  pub absent_none : (rs : List Stored) → has_line n rs ≡ false → records_of_line n rs ≡ []
  absent_none [] h = refl
  absent_none (r ∷ rs) h =
      by_cases (eqb r.line n) (λ e. absurd (true≢false (rw e at h))) (λ e. rw (e, if◌then◌else◌) (absent_none rs (rw e at h)))

  pub none-absent : (rs : List Stored) → records_of_line n rs ≡ [] → has_line n rs ≡ false
  none-absent [] h = refl
  none-absent (r ∷ rs) h = by (eqb r.line n) h (none-absent rs) where
    by : (b : Bool) → (if b then r ∷ records_of_line n rs else records_of_line n rs) ≡ [] → (records_of_line n rs ≡ [] → has_line n rs ≡ false) → (b || has_line n rs) ≡ false
    by true h f = let z : ◌≡◌ {A = ℕ} 0 1 = cc in absurd (omega arith)
    by false h f = f h

-- a record put in
module _ (q : Stored) where
  abbrev n : ℕ
  n = q.line

  -- before those of higher numbers, in the place of the one of its number, or after those of lower ones
  pub record With (rs ps : List Stored) : Type 0 where
    pub one : records_of_line n ps ≡ q ∷ []
    pub rest : others n ps ≡ others n rs
    pub room : used_by ps ≡ used_by (others n rs) + size q

  here : eqb n n ≡ true
  here = eq-eqb n n refl

  pub with-is : {lim low : ℕ} {rs : List Stored} → Program lim low rs → With rs (with q rs)
  with-is none = record { one = rw here; rest = rw here; room = omega arith }
  with-is (each {r = r} {rs = rs} l s p) = by (ltb n r.line) refl (eqb n r.line) refl (with-is p) where
    by : (a : Bool) → ltb n r.line ≡ a → (b : Bool) → eqb n r.line ≡ b → With rs (with q rs)
        → With (r ∷ rs) (if a then q ∷ r ∷ rs else if b then q ∷ rs else r ∷ with q rs)
    by true e b f w =
        let h = ltb-true n r.line e in
        let m : eqb r.line n ≡ false = ne_eqb r.line n (λ e. omega arith) in
        let a = none_of n {low = suc r.line} (omega arith) p in
        let o = all-other n {low = suc r.line} (omega arith) p in
        record { one = rw (here, m, a); rest = rw here; room = rw (m, o) (omega arith) }
    by false e true f w =
        let h = eqb-true n r.line f in
        let m : eqb r.line n ≡ true = eq-eqb r.line n (sym h) in
        let a = none_of n {low = suc r.line} (omega arith) p in
        let o = all-other n {low = suc r.line} (omega arith) p in
        record { one = rw (here, a); rest = rw (here, m); room = rw (m, o) (omega arith) }
    by false e false f w =
        let m : eqb r.line n ≡ false = ne_eqb r.line n (λ g. eqb-false n r.line f (sym g)) in
        record { one = rw m w.one; rest = rw m (ap (λ (l : List Stored). r ∷ l) w.rest); room = rw m (omega (arith, w.room)) }

-- What an edit leaves
pub edited-fits : (page : List ℕ) (w : World) (rs : List Stored) → used_by rs ≤ length page → edited page w rs ≡ stops 0 (with_session w (stackless w.session)) (onto page rs)
unfolding edited
edited-fits page w rs h = rw (program-length rs, le-leb (used_by rs) (length page) h)

pub edited-full : (page : List ℕ) (w : World) (rs : List Stored) → length page < used_by rs → edited page w rs ≡ stops 2 w page
unfolding edited
edited-full page w rs h = rw (program-length rs, lt-leb (used_by rs) (length page) h)

pub onto-length : (page : List ℕ) (rs : List Stored) → used_by rs ≤ length page → length (onto page rs) ≡ length page
onto-length page rs h = length-append (program_bytes rs) _ ∙ omega (arith, length-drop (length (program_bytes rs)) page, program-length rs)

pub onto-after : (page : List ℕ) (rs : List Stored) → drop (used_by rs) (onto page rs) ≡ drop (used_by rs) page
onto-after page rs = rw (← program-length rs) (drop-append_seam (program_bytes rs) (drop (length (program_bytes rs)) page))

pub onto-used : {rs : List Stored} (page : List ℕ) → Program limit 0 rs → used (onto page rs) ≡ used_by rs
unfolding used
onto-used page p = ap used_by (onto-records page p)

edit-leaves : (x : Lent) (taken : ℕ) {rs : List Stored} → Program limit 0 rs → used_by rs ≤ length x.page → Edits x taken (edited x.page (begun x taken) rs)
edit-leaves x taken {rs = rs} p h =
    rw (edited-fits x.page (begun x taken) rs h)
    (record {
      answer = refl;
      session = refl;
      memory = refl;
      output = refl;
      good = (good-exact limit _ (omega arith)).0 (onto-good x.page p);
      rising = good-rising limit _ (onto-good x.page p);
      bytes = rw (onto-used x.page p, onto-records x.page p) (take_at (program_bytes rs) _ (used_by rs) (program-length rs));
      long = onto-length x.page rs h;
      after = rw (onto-used x.page p) (onto-after x.page rs);
    })

module _ (x : Lent) (g : Gathered) (h : Typing limit x g) where
  on-page : Laid limit x.page 0 0 (records_of x.page)
  on-page = good-laid limit x.page (omega arith) (accepted-of limit x h.sound).good

  pub program : Program limit 0 (records_of x.page)
  program = laid-program on-page

  pub program-room : used_by (records_of x.page) ≤ length x.page
  program-room = omega (arith, laid-room on-page)

  pub line-short : length g.line.bytes ≤ limit
  line-short = (taken limit (drop x.call.inpos x.input) g h.line).fine.fits

  module _ (n : ℕ) (t : List ℕ) (ms : List Member) (r : LineReading g.line.bytes (store n t ms)) where
    abbrev q : Stored
    q = record { line = n; text = t }

    stores : take_line x ≡ edited x.page (begun x g.taken) (with q (records_of x.page))
    unfolding obey
    stores = line_read x g (store n t ms) h (typed-complete r)

    pub retyping-replaces : used_by (others n (records_of x.page)) + (length t + 4) ≤ length x.page
        → Edits x g.taken (take_line x) × Replaces x n t (take_line x)
    retyping-replaces room =
        let p = with-program q (stored-storable limit (omega arith) r line-short) (omega arith) program in
        let w = with-is q program in
        let f : used_by (with q (records_of x.page)) ≤ length x.page = omega (arith, w.room) in
        rw stores (
          edit-leaves x g.taken p f,
          rw (edited-fits x.page (begun x g.taken) (with q (records_of x.page)) f)
              (record { one = rw (onto-records x.page p) w.one; rest = rw (onto-records x.page p) w.rest }),
        )

    -- "No room: 2, page and stacks kept"
    pub no_room : length x.page < used_by (others n (records_of x.page)) + (length t + 4) → leaves take_line x ≡ line_taken x 2 g.taken
    no_room full =
        left-kept take_line x _ (stores ∙ edited-full x.page (begun x g.taken) (with q (records_of x.page)) (omega (arith, (with-is q program).room))) h.sound refl

  -- NEW
  pub new-empties : LineReading g.line.bytes new → Edits x g.taken (take_line x) × (records_of (take_line x).page ≡ [])
  unfolding obey
  new-empties r =
      let o : take_line x ≡ edited x.page (begun x g.taken) [] = line_read x g new h (typed-complete r) in
      let f : 2 ≤ length x.page = (accepted-of limit x h.sound).range.some in
      rw o (edit-leaves x g.taken none f, rw (edited-fits x.page (begun x g.taken) [] f) (onto-records {lim = limit} x.page none))

  module _ (n : ℕ) (r : LineReading g.line.bytes (delete n)) where
    pub deletes : (b : Bool) → has_line n (records_of x.page) ≡ b
        → take_line x ≡ elim b [ true ↦ edited x.page (begun x g.taken) (without n (records_of x.page)) | false ↦ stops 0 (begun x g.taken) x.page ]
    unfolding obey
    deletes b e = line_read x g (delete n) h (typed-complete r) ∙ rw (e, obey)

    pub deleting-removes : (records_of_line n (records_of x.page) ≡ [] → ⊥) → Edits x g.taken (take_line x) × Deletes x n (take_line x)
    deleting-removes there = by_cases (has_line n (records_of x.page)) by (λ e. absurd (there (absent_none n (records_of x.page) e))) where
      by : has_line n (records_of x.page) ≡ true → Edits x g.taken (take_line x) × Deletes x n (take_line x)
      by e =
          let rs : List Stored = without n (records_of x.page) in
          let p : Program limit 0 rs = without-program n program in
          let o : rs ≡ others n (records_of x.page) = without-others n program in
          let k = program-room in
          let f : used_by rs ≤ length x.page = omega (arith, ap used_by o, others-short n (records_of x.page)) in
          rw (deletes true e) (
            edit-leaves x g.taken p f,
            rw (edited-fits x.page (begun x g.taken) rs f)
                (record { gone = rw (onto-records x.page p) (without-none n program); rest = rw (onto-records x.page p) o }),
          )

    -- "deleting an absent line keeps page and stacks"
    pub absent-kept : records_of_line n (records_of x.page) ≡ [] → leaves take_line x ≡ line_taken x 0 g.taken
    absent-kept there = left-kept take_line x _ (deletes false (none-absent n (records_of x.page) there)) h.sound refl
