-- "Listing round trip": what LIST writes, typed into an empty page, gives the same program. Assumes nothing.
use Prim.Native.Nat.{ℕ, suc, ◌+◌, ◌-◌, ◌≤◌}
use mathlib.Core.Path.{◌≡◌, refl, sym, ap, subst, ◌∙◌}
use mathlib.Core.Bool.{true, false}
use mathlib.Core.List.{List, [], ◌∷◌, ◌++◌, append_assoc, append-nil}
use mathlib.Core.Option.{none, some}
use native.Mathlib.Nat.{add-zero}
use native.Mathlib.Omega.{arith}
use lib.ListN.{length, take, drop, length-append, length-drop}
use lib.Seq.{sets, sets-eq, length-sets, take_at, drop_at, drop-drop, drop-append-add, length-take-le}
use lib.Dec.{ltb}
use borrow.Author.Tests.{le-leb, le-ltb, ne_eqb}
use Rattle.nibl.specs.Bytes.{bytes, is_digit, All, starts, decimal_value}
use Rattle.nibl.specs.Bytes as plain
use Rattle.nibl.specs.Words.{decimal, ByteRun, Word, keywords}
use Rattle.nibl.specs.Words as words
use Rattle.nibl.specs.Grammar.{a_store, a_list}
use Rattle.nibl.specs.Tree.{Member, list, store}
use Rattle.nibl.specs.Readings.{LineReading}
use Rattle.nibl.specs.Typing.{kept, Gathered, gather}
use Rattle.nibl.specs.Values.{digits}
use Rattle.nibl.specs.Page.{Stored, program_bytes, records_of, used_by, used, fits, with, onto}
use Rattle.nibl.specs.Record.{unpaused, stackless}
use Rattle.nibl.specs.Meaning.{World, with_session, with_output, on, done, put}
use Rattle.nibl.specs.Lent.{Lent, Outcome, stops}
use Rattle.nibl.specs.Typing.{limit}
use Rattle.nibl.specs.Lent.{begun, lent_env}
use Rattle.nibl.specs.FirstRefusals.{first_refusal}
use Rattle.nibl.specs.Calls.{listed, list_from, after_immediate, edited, obey, take_line}
use Rattle.nibl.specs.declared.Session.{Session}
use Rattle.nibl.proofs.Ends.{line-text}
use Rattle.nibl.proofs.Lines.{reading-sound}
use Rattle.nibl.proofs.Whole.{typed-complete}
use Rattle.letter.proofs.Classes.{is_plain}
use Rattle.letter.proofs.Typed as letters
use Rattle.value.proofs.Digits.{value-digits, digits_are, digits-some}
use Rattle.value.proofs.Writing.{sets-append}
use Rattle.page.specs.Standing.{Bytes, Storable}
use Rattle.page.proofs.Program.{Program, none, each, program-length}
use Rattle.page.proofs.Stored.{stored-read, stored-undigit, stored_short}
use Rattle.page.proofs.Laid.{good-bytes}
use Rattle.page.proofs.Listings.{listed-length}
use Rattle.page.proofs.Changes.{lower, onto-good, onto-records}
use Rattle.record.proofs.Fitted.{page-tests}
use Rattle.demands.specs.Lent.{Typing}
use Rattle.demands.specs.Listing.{listing_of, listing_room, written, ListsWhole, lent_next, after_lines, answers, Stops0, last_lf, RoundTrip}
use Rattle.demands.specs.Listing as listings
use Rattle.demands.proofs.Accepted.{Accepted, accepted-of, accepted-is}
use Rattle.demands.proofs.Tables.{true-after, long_after}
use Rattle.demands.proofs.Retyping.{program, program-room, line_read, edited-fits, onto-length, onto-after, onto-used}

-- What LIST writes
pub listing-length : (rs : List Stored) → length (listing_of rs) ≡ listing_room rs
listing-length [] = refl
listing-length (r ∷ rs) = length-append (listed r) (listing_of rs) ∙ omega (arith, listed-length r, listing-length rs)

abbrev pub wrote : World → List ℕ → World
wrote w bs = with_output w (sets w.output w.outpos bs) (w.outpos + length bs)

put-fits : (bs : List ℕ) (w : World) → w.outpos + length bs ≤ length w.output → put bs w ≡ done on (wrote w bs)
unfolding put
put-fits bs w h = rw (le-leb (w.outpos + length bs) (length w.output) h)

pub wrote-more : (w : World) (a b : List ℕ) → wrote (wrote w a) b ≡ wrote w (a ++ b)
wrote-more w a b =
    let e : w.outpos + length a + length b ≡ w.outpos + length (a ++ b) = omega (arith, length-append a b) in
    λ i. with_output w (sym (sets-append a b w.output w.outpos) i) (e i)

list-whole : (rs : List Stored) (w : World) → w.outpos + length (listing_of rs) ≤ length w.output → list_from 0 rs w ≡ done on (wrote w (listing_of rs))
unfolding list_from
list-whole [] w h = ap (λ (n : ℕ). done on (with_output w w.output n)) (sym (add-zero w.outpos))
list-whole (r ∷ rs) w h =
    let a = length-append (listed r) (listing_of rs) in
    rw (le-leb 0 r.line (omega arith), list_from) (rw (put-fits (listed r) w (omega arith))
    (list-whole rs (wrote w (listed r)) (omega (arith, length-sets w.output w.outpos (listed r))) ∙ ap (done on) (wrote-more w (listed r) (listing_of rs))))

module _ (x : Lent) (g : Gathered) (h : Typing limit x g) (r : LineReading g.line.bytes (list 0))
    (room : x.call.outpos + listing_room (records_of x.page) ≤ length x.output) where
  list-outcome : take_line x ≡ after_immediate x.call.budget (lent_env limit x) (done on (wrote (begun x g.taken) (listing_of (records_of x.page))))
  unfolding obey
  list-outcome =
      line_read x g (list 0) h (typed-complete r)
      ∙ ap (after_immediate x.call.budget (lent_env limit x)) (list-whole (records_of x.page) (begun x g.taken) (omega (arith, listing-length (records_of x.page))))

  list_written : written x (take_line x) ≡ listing_of (records_of x.page)
  list_written =
      let bs : List ℕ = listing_of (records_of x.page) in
      let p : ℕ = x.call.outpos in
      let l = listing-length (records_of x.page) in
      let f : p + length bs - p ≡ length bs = omega arith in
      rw list-outcome
      (rw (f, sets-eq bs x.output p (omega arith), append_assoc (take p x.output) bs (drop (p + length bs) x.output))
      (ap (take (length bs)) (drop_at (take p x.output) (bs ++ drop (p + length bs) x.output) p (length-take-le p x.output (omega arith)))
      ∙ take_at bs (drop (p + length bs) x.output) (length bs) refl))

  pub list-lists : ListsWhole x g (take_line x)
  list-lists =
      record {
        answer = rw (list-outcome, ← listing-length (records_of x.page));
        session = rw list-outcome;
        page = rw list-outcome;
        memory = rw list-outcome;
        output = rw list-outcome;
        wrote = list_written;
      }

-- A listed line, typed
abbrev typed_line : Stored → List ℕ
typed_line r = digits r.line ++ r.text

module _ (r : Stored) (s : Storable limit r) where
  short : length (typed_line r) ≤ limit
  short = omega (arith, stored_short s, length-append (digits r.line) r.text)

  some-digit : (ds : List ℕ) → All is_digit ds → 1 ≤ length ds → starts is_digit ds ≡ true
  some-digit ds plain.none l = absurd (omega arith)
  some-digit ds (plain.each e a) l = e

  number : Word keywords (typed_line r) (decimal r.line) r.text
  number =
      let ds : List ℕ = digits r.line in
      let run : ByteRun is_digit ds r.text = record { some = some-digit ds (digits_are r.line) (digits-some r.line); each = digits_are r.line; longest = stored-undigit s } in
      let v : decimal_value 0 ds ≡ r.line = value-digits r.line (omega (arith, s.number)) in
      subst (λ (n : ℕ). Word keywords (typed_line r) (decimal n) r.text) v (words.decimal_digits run (omega (arith, s.number)))

  -- it is read as the line that was stored
  pub listed-read : {P : Type 0} → ((ms : List Member) → LineReading (typed_line r) (store r.line r.text ms) → P) → P
  listed-read f = let t = stored-read s in f t.members (a_store number (reading-sound r.text t.members t.reads))

  line_plain : All is_plain (typed_line r)
  line_plain = listed-read (λ ms l. letters.all-text (line-text l))

-- the LF of the line before, if there was one
data Before : List ℕ → Type 0 where
  start : Before []
  after_lf : Before (10 ∷ [])

module _ (r : Stored) (s : Storable limit r) (rs : List Stored) where
  -- the first line of a listing, gathered
  abbrev listed_line : List ℕ → Gathered
  listed_line lead = record { line = kept (typed_line r) false; taken = length lead + (length (typed_line r) + 1) }

  listing-split : listing_of (r ∷ rs) ≡ typed_line r ++ 13 ∷ 10 ∷ listing_of rs
  listing-split = simp append_assoc

  abbrev took : ℕ → Gathered
  took n = record { line = kept (typed_line r) false; taken = n }

  by-taken : {m n : ℕ} → m ≡ n → some (took m) ≡ some (took n)
  by-taken e = ap (λ (n : ℕ). some (took n)) e

  line-gathered : {lead : List ℕ} → Before lead → gather limit (lead ++ listing_of (r ∷ rs)) ≡ some (listed_line lead)
  line-gathered start = ap (gather limit) listing-split ∙ letters.typed limit (typed_line r) (10 ∷ listing_of rs) (line_plain r s) (short r s) ∙ by-taken (omega arith)
  line-gathered after_lf =
      ap (λ (l : List ℕ). gather limit (10 ∷ l)) listing-split ∙ letters.typed-lf limit (typed_line r) (10 ∷ listing_of rs) (line_plain r s) (short r s) ∙ by-taken (omega arith)

  line-left : (lead : List ℕ) → drop (listed_line lead).taken (lead ++ listing_of (r ∷ rs)) ≡ 10 ∷ listing_of rs
  line-left lead =
      drop-append-add lead (listing_of (r ∷ rs)) (length (typed_line r) + 1)
      ∙ ap (drop (length (typed_line r) + 1)) listing-split
      ∙ drop-append-add (typed_line r) (13 ∷ 10 ∷ listing_of rs) 1

-- The records so far, and one more
low-last : {lim low : ℕ} (q : Stored) (ds rs : List Stored) → Program lim low (ds ++ q ∷ rs) → low ≤ q.line
low-last q [] rs (each l s p) = l
low-last q (d ∷ ds) rs (each l s p) = let h = low-last q ds rs p in omega arith

last-with : {lim low : ℕ} (q : Stored) (ds rs : List Stored) → Program lim low (ds ++ q ∷ rs) → with q ds ≡ ds ++ (q ∷ [])
last-with q [] rs p = refl
last-with q (d ∷ ds) rs (each l s p) =
    let h = low-last q ds rs p in
    rw (le-ltb q.line d.line (omega arith), ne_eqb q.line d.line (λ e. omega arith)) (ap (λ (l : List Stored). d ∷ l) (last-with q ds rs p))

front-program : {lim low : ℕ} (ds rs : List Stored) → Program lim low (ds ++ rs) → Program lim low ds
front-program [] rs p = none
front-program (d ∷ ds) rs (each l s p) = each l s (front-program ds rs p)

rest-program : {lim low : ℕ} (ds rs : List Stored) → Program lim low (ds ++ rs) → Program lim 0 rs
rest-program {low = low} [] rs p = lower low (omega arith) p
rest-program (d ∷ ds) rs (each l s p) = rest-program ds rs p

used-front : (ds rs : List Stored) → used_by ds ≤ used_by (ds ++ rs)
used-front [] [] = omega arith
used-front [] (r ∷ rs) = omega (arith, used-front [] rs)
used-front (d ∷ ds) rs = omega (arith, used-front ds rs)

onto-onto : (page : List ℕ) (ds es : List Stored) → used_by ds ≤ used_by es → onto (onto page ds) es ≡ onto page es
onto-onto page ds es h =
    let e : length (program_bytes ds) + (length (program_bytes es) - length (program_bytes ds)) ≡ length (program_bytes es) = omega (arith, program-length ds, program-length es) in
    ap (λ (l : List ℕ). program_bytes es ++ l)
    (ap (λ (n : ℕ). drop n (onto page ds)) (sym e)
    ∙ drop-append-add (program_bytes ds) (drop (length (program_bytes ds)) page) (length (program_bytes es) - length (program_bytes ds))
    ∙ drop-drop (length (program_bytes es) - length (program_bytes ds)) (length (program_bytes ds)) page
    ∙ ap (λ (n : ℕ). drop n page) e)

-- One listed line typed: m is what was lent at first, ds the records so far
record Stage (m : Lent) (ds rs : List Stored) (lead : List ℕ) (y : Lent) : Type 0 where
  sound : Accepted limit y
  page : y.page ≡ onto m.page ds
  memory : y.memory ≡ m.memory
  output : y.output ≡ m.output
  input : y.input ≡ m.input
  left : drop y.call.inpos y.input ≡ lead ++ listing_of rs

stackless-fits : (page : List ℕ) (s : Session) → ltb s.flags 8 ≡ true → fits page (stackless (unpaused s)) ≡ true
unfolding fits
stackless-fits page s h = rw h

module _ (m : Lent) (ds rs : List Stored) (r : Stored) (p : Program limit 0 (ds ++ r ∷ rs)) (room : used_by (ds ++ r ∷ rs) ≤ length m.page)
    (lead : List ℕ) (b : Before lead) (y : Lent) (t : Stage m ds (r ∷ rs) lead y) where
  storable : Storable limit r
  storable = first (rest-program ds (r ∷ rs) p) where
    first : {low : ℕ} → Program limit low (r ∷ rs) → Storable limit r
    first (each l s q) = s

  abbrev g : Gathered
  g = listed_line r storable rs lead

  typing : Typing limit y g
  typing = record { sound = accepted-is t.sound; line = rw t.left (line-gathered r storable rs b); short = refl }

  abbrev more : List Stored
  more = ds ++ (r ∷ [])

  more-program : Program limit 0 more
  more-program = front-program more rs (rw (append_assoc ds (r ∷ []) rs) p)

  more_room : used_by more ≤ length m.page
  more_room = let e : used_by (more ++ rs) ≡ used_by (ds ++ r ∷ rs) = ap used_by (append_assoc ds (r ∷ []) rs) in omega (arith, used-front more rs)

  records : records_of y.page ≡ ds
  records = rw t.page (onto-records m.page (front-program ds (r ∷ rs) p))

  long : length y.page ≡ length m.page
  long = rw t.page (onto-length m.page ds (omega (arith, used-front ds (r ∷ rs))))

  abbrev stored : Outcome
  stored = stops 0 (with_session (begun y g.taken) (stackless (unpaused y.session))) (onto m.page more)

  accepted : first_refusal limit y ≡ 0
  accepted = accepted-is t.sound

  line-stored : take_line y ≡ stored
  unfolding obey
  line-stored = listed-read r storable (λ ms l.
      line_read y g (store r.line r.text ms) typing (typed-complete l)
      ∙ ap (λ (l : List Stored). edited y.page (begun y g.taken) l) (ap (with r) records ∙ last-with r ds rs p)
      ∙ edited-fits y.page (begun y g.taken) more (omega (arith, more_room, long))
      ∙ ap (λ (q : List ℕ). stops 0 (with_session (begun y g.taken) (stackless (unpaused y.session))) q)
      (ap (λ (q : List ℕ). onto q more) t.page ∙ onto-onto m.page ds more (used-front ds (r ∷ []))))

  inside : y.call.inpos + g.taken ≤ length y.input
  inside = let k = letters.taken limit (drop y.call.inpos y.input) g typing.line in omega (arith, k.some_byte, k.there, length-drop y.call.inpos y.input)

  one_typed : Stage m more rs (10 ∷ []) (lent_next y (take_line y))
  one_typed =
      let r' = t.sound.range in
      rw line-stored
      (record {
        sound = record {
          range = record {
            some = omega (arith, onto-length m.page more more_room, long, r'.some);
            page = omega (arith, onto-length m.page more more_room, long, r'.page);
            memory = r'.memory;
            input = r'.input;
            output = r'.output;
            inpos = inside;
            outpos = r'.outpos;
            budget = r'.budget;
            table = long_after limit y stored accepted (omega (arith, onto-length m.page more more_room, long, r'.page));
          };
          good = onto-good m.page more-program;
          table = true-after limit y stored accepted;
          fit = stackless-fits (onto m.page more) y.session (page-tests y.page y.session t.sound.fit).flags;
        };
        page = refl;
        memory = t.memory;
        output = t.output;
        input = t.input;
        left = sym (drop-drop g.taken y.call.inpos y.input) ∙ ap (drop g.taken) t.left ∙ line-left r storable rs lead;
      })

  -- with the answer
  one-answered : (n : ℕ) → Stops0 (answers n (lent_next y (take_line y))) → Stops0 (answers (suc n) y)
  unfolding answers
  one-answered n h = listings.each {a = (take_line y).answer} (rw line-stored) (rw line-stored) (rw line-stored) h

-- Stage by stage
record AllTyped (m : Lent) (rs : List Stored) (lead : List ℕ) (n : ℕ) (y : Lent) : Type 0 where
  after : Stage m rs [] lead (after_lines n y)
  answers : Stops0 (answers n y)

step_typed : {m : Lent} {rs : List Stored} {lead : List ℕ} {n : ℕ} (y : Lent) → (Stops0 (answers n (lent_next y (take_line y))) → Stops0 (answers (suc n) y))
    → AllTyped m rs lead n (lent_next y (take_line y)) → AllTyped m rs lead (suc n) y
unfolding after_lines
step_typed y f t = record { after = t.after; answers = f t.answers }

none-typed : {m : Lent} {rs : List Stored} {lead : List ℕ} (y : Lent) → Stage m rs [] lead y → AllTyped m rs lead 0 y
unfolding after_lines answers
none-typed y t = record { after = t; answers = listings.none }

more-typed : (m : Lent) (ds rs : List Stored) → Program limit 0 (ds ++ rs) → used_by (ds ++ rs) ≤ length m.page → (y : Lent) → Stage m ds rs (10 ∷ []) y
    → AllTyped m (ds ++ rs) (10 ∷ []) (length rs) y
more-typed m ds [] p h y t = none-typed y (rw (append-nil ds) t)
more-typed m ds (r ∷ rs) p h y t =
    let a : ds ++ (r ∷ []) ++ rs ≡ ds ++ r ∷ rs = append_assoc ds (r ∷ []) rs in
    step_typed y (one-answered m ds rs r p h (10 ∷ []) after_lf y t (length rs))
    (rw a at (more-typed m (ds ++ (r ∷ [])) rs (rw a p) (rw a h) (lent_next y (take_line y)) (one_typed m ds rs r p h (10 ∷ []) after_lf y t)))

all_typed : (m : Lent) (rs : List Stored) → Program limit 0 rs → used_by rs ≤ length m.page → (y : Lent) → Stage m [] rs [] y → AllTyped m rs (last_lf rs) (length rs) y
all_typed m [] p h y t = none-typed y t
all_typed m (r ∷ rs) p h y t =
    step_typed y (one-answered m [] rs r p h [] start y t (length rs)) (more-typed m (r ∷ []) rs p h (lent_next y (take_line y)) (one_typed m [] rs r p h [] start y t))

module _ (x : Lent) (bytes' : Bytes x.page) (g : Gathered) (h : Typing limit x g) (r : LineReading g.line.bytes (list 0))
    (room : x.call.outpos + listing_room (records_of x.page) ≤ length x.output)
    (y : Lent) (sound : first_refusal limit y ≡ 0) (rest : List ℕ) (empty : y.page ≡ 255 ∷ 255 ∷ rest) (long : length y.page ≡ length x.page)
    (begin : y.call.inpos ≡ 0) (input : y.input ≡ written x (take_line x)) where
  abbrev lines : ℕ
  lines = length (records_of x.page)

  typed-back : AllTyped y (records_of x.page) (last_lf (records_of x.page)) lines y
  typed-back =
      all_typed y (records_of x.page) (program x g h) (omega (arith, long, program-room x g h)) y
      (record {
        sound = accepted-of limit y sound;
        page = rw empty;
        memory = refl;
        output = refl;
        input = refl;
        left = rw (begin, input, list_written x g h r room) refl;
      })

  abbrev z : Lent
  z = after_lines (length (records_of x.page)) y

  same-program : take (used x.page) (onto y.page (records_of x.page)) ≡ take (used x.page) x.page
  unfolding used
  same-program =
      let pb : List ℕ = program_bytes (records_of x.page) in
      let l : length pb ≡ used_by (records_of x.page) = program-length (records_of x.page) in
      take_at pb _ (used_by (records_of x.page)) l
      ∙ sym (ap (take (used_by (records_of x.page))) (good-bytes limit x.page bytes' (accepted-of limit x h.sound).good) ∙ take_at pb _ (used_by (records_of x.page)) l)

  back : RoundTrip x y z
  unfolding used
  back =
      let t = typed-back.after in
      record {
        top = rw t.page (onto-used y.page (program x g h));
        same = rw t.page same-program;
        after = rw t.page (onto-after y.page (records_of x.page));
        memory = t.memory;
        output = t.output;
        table = t.sound.table;
        left = t.left ∙ append-nil (last_lf (records_of x.page));
      }

  pub listing-round-trip : ListsWhole x g (take_line x) × (Stops0 (answers (length (records_of x.page)) y) × RoundTrip x y (after_lines (length (records_of x.page)) y))
  listing-round-trip = (list-lists x g h r room, (typed-back.answers, back))

-- "LIST" itself is such a line
pub list-gathered : (rest : List ℕ) → gather limit (bytes "LIST" ++ 13 ∷ rest) ≡ some (record { line = kept (bytes "LIST") false; taken = 5 })
list-gathered rest =
    letters.typed limit (bytes "LIST") rest (plain.each refl (plain.each refl (plain.each refl (plain.each refl plain.none)))) (omega arith)

pub list_read : LineReading (bytes "LIST") (list 0)
unfolding words.none_over
list_read =
    a_list (words.keyword {cs = 83 ∷ 84 ∷ []} {s = []}
    (record { each = plain.each refl (plain.each refl (plain.each refl (plain.each refl plain.none))); spelled = refl; longest = refl })) plain.none
