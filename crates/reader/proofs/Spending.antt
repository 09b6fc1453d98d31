-- Readers that may write more operations than they read bytes: one after another, at a sign, in a loop, and the room that they need. Assumes nothing.
use Prim.Native.Nat.{ℕ, suc, ◌+◌, ◌≤◌, ◌<◌}
use Rattle.std.specs.Prelude.{Some, None}
use Prim.Native.String.{String}
use mathlib.Core.Path.{◌≡◌, refl, ap, subst, ◌∙◌}
use mathlib.Core.List.{List, [], ◌∷◌, ◌++◌, append_assoc}
use native.Mathlib.Omega.{arith}
use lib.ListN.{length}
use lib.Seq.{sets}
use Rattle.nibl.specs.Words.{number}
use Rattle.nibl.specs.found.Read.{nothing, Reader, a_sign, fail, give, if_key, key, may, ◌>>=◌}
use Rattle.word.specs.declared.Cursor.{Cursor}
use Rattle.relation.specs.Makes.{ahead, need, filled, WroteOps, Written, written, Gives, stopped, refused, given, Reads, Leads, onto, only, bare, Over, Stood, stood, Absent, absent, KeyIs, there}
use Rattle.relation.specs.Made.{Made}
use Rattle.relation.proofs.Readers.{then_found, then-nothing, if-there, if-other}
use Rattle.relation.proofs.Signs.{stood-over}
use Rattle.relation.proofs.States.{wrote-both, filled-need, key-low, key-spare, written-ahead, written-need, chain, led, same}
use Rattle.reader.specs.Forms.{Room, Spends, halted, Unless, unless, MayIs, gone, kept, Puts, puts, Long}

wrote_one : {ops ops' : List ℕ} {o : ℕ} (v : ℕ) → ops' ≡ sets ops o (v ∷ []) → WroteOps ops o (v ∷ []) ops' (o + 1)
wrote_one v e = record { pos = omega arith; buf = e }

pub need-mono : (text : List ℕ) (r : Made) (i j : ℕ) → i ≤ j → need i text r ≤ need j text r
need-mono text None i j h = omega arith
need-mono text (Some (c, o)) i j h = omega arith

-- One reader after another, whatever was read before them
module _ {X A B : Type 0} {text : List ℕ} where
  beyond : (Q : X → A → Reader B) {F : Reader A} {pre : X → List ℕ} {code : A → List ℕ} {code' : B → List ℕ} {ops ops1 ops2 : List ℕ} {r s t : Made}
      → Gives (only F) bare code text ops ops1 r s → Gives (λ (p : X × A). Q p.0 p.1) (λ (p : X × A). pre p.0 ++ code p.1) code' text ops1 ops2 s t
      → Gives (λ x. F >>= Q x) pre code' text ops ops2 r t
  beyond Q stopped stopped = stopped
  beyond Q {F} (refused e) stopped = refused (λ x. then-nothing F (Q x) _ (e tt))
  beyond Q {F} (given grow tail e f h w) (refused e') = refused (λ x. then_found F (Q x) _ (e tt) ∙ e' (x, grow tt))
  beyond Q {F} {pre} (given grow tail e f h w) (given grow' tail' e' f' h' w') =
      given (λ x. grow' (x, grow tt)) (tail ++ tail') (λ x. then_found F (Q x) _ (e tt) ∙ e' (x, grow tt))
      (λ x. f' (x, grow tt) ∙ ap (λ l. (pre x ++ l) ++ tail') (f tt) ∙ append_assoc (pre x) tail tail') (λ i. h' (h i)) (wrote-both w w')

  pub after : (Q : X → A → Reader B) {F : Reader A} {pre : X → List ℕ} {code : A → List ℕ} {code' : B → List ℕ} {ops ops1 ops2 : List ℕ} {r s t : Made} {i j n : ℕ}
      → i + j ≤ n → Spends i (only F) bare code text ops r ops1 s
      → Spends j (λ (p : X × A). Q p.0 p.1) (λ (p : X × A). pre p.0 ++ code p.1) code' text ops1 s ops2 t
      → Spends n (λ x. F >>= Q x) pre code' text ops r ops2 t
  after Q {r} {i} {j} {n} h a b =
      record { low = omega arith; few = λ k. omega (arith, b.few k, a.few (j + k), need-mono text r (i + (j + k)) (n + k) (omega arith)); gives = beyond Q a.gives b.gives }

  pub then-on : {F : X → Reader A} {Q : A → Reader B} {pre : X → List ℕ} {code : A → List ℕ} {code' : B → List ℕ} {ops ops1 ops2 : List ℕ} {r s t : Made} {i j n : ℕ}
      → i + j ≤ n → Spends i F pre code text ops r ops1 s → Spends j Q code code' text ops1 s ops2 t → Spends n (λ x. F x >>= Q) pre code' text ops r ops2 t
  then-on {r} {i} {j} {n} h a b =
      record { low = omega arith; few = λ k. omega (arith, b.few k, a.few (j + k), need-mono text r (i + (j + k)) (n + k) (omega arith)); gives = chain a.gives b.gives }

  -- what was read is made into something else
  regive : {F : Reader A} {pre : X → List ℕ} {code : A → List ℕ} {code' : B → List ℕ} {ops ops' : List ℕ} {r s : Made} (g : X → A → B)
      → ((x : X) (a : A) → code' (g x a) ≡ pre x ++ code a) → Gives (only F) bare code text ops ops' r s
      → Gives (λ x. F >>= (λ a. give (g x a))) pre code' text ops ops' r s
  regive g c stopped = stopped
  regive {F} g c (refused e) = refused (λ x. then-nothing F _ _ (e tt))
  regive {F} {pre} g c (given grow tail e f h w) =
      given (λ x. g x (grow tt)) tail (λ x. then_found F _ _ (e tt)) (λ x. c x (grow tt) ∙ ap (λ l. pre x ++ l) (f tt)) h w

  pub renamed : {F : Reader A} {pre : X → List ℕ} {code : A → List ℕ} {code' : B → List ℕ} {ops ops' : List ℕ} {r s : Made} {n : ℕ} (g : X → A → B)
      → ((x : X) (a : A) → code' (g x a) ≡ pre x ++ code a) → Spends n (only F) bare code text ops r ops' s
      → Spends n (λ x. F >>= (λ a. give (g x a))) pre code' text ops r ops' s
  renamed g c a = record { low = a.low; few = a.few; gives = regive g c a.gives }

-- and one operation more
module _ {A : Type 0} {F : Reader A} {code : A → List ℕ} {text : List ℕ} where
  add : {v : ℕ} {ops ops1 ops2 : List ℕ} {r s t : Made} → Gives (only F) bare code text ops ops1 r s → Written v ops1 s ops2 t
      → Gives (only F) bare (λ a. code a ++ (v ∷ [])) text ops ops2 r t
  add stopped stopped = stopped
  add (refused e) stopped = refused e
  add {v} (given grow tail e f h w) written =
      given grow (tail ++ (v ∷ [])) e (λ x. ap (λ l. l ++ (v ∷ [])) (f x)) h (wrote-both w (wrote_one v refl))

  pub added : {ops ops1 ops2 : List ℕ} {r s t : Made} {v i n : ℕ} → i < n → Spends i (only F) bare code text ops r ops1 s → Written v ops1 s ops2 t
      → Spends n (only F) bare (λ a. code a ++ (v ∷ [])) text ops r ops2 t
  added {r} {i} {n} h a w =
      record {
        low = omega (arith, written-ahead w text);
        few = λ k. omega (arith, written-need w text k, a.few (suc k), need-mono text r (i + suc k) (n + k) (omega arith));
        gives = add a.gives w;
      }

module _ {X A : Type 0} {R : X → Reader A} {pre : X → List ℕ} {code : A → List ℕ} {text ops ops' : List ℕ} where
  pub spent : {r s : Made} {n : ℕ} → Reads R pre code text ops r ops' s → Spends n R pre code text ops r ops' s
  spent {r} {n} a = record { low = a.low; few = λ k. omega (arith, a.few k, need-mono text r (k) (n + k) (omega arith)); gives = a.gives }

  pub looser : {r s : Made} {i n : ℕ} → i ≤ n → Spends i R pre code text ops r ops' s → Spends n R pre code text ops r ops' s
  looser {r} {i} {n} h a = record { low = a.low; few = λ k. omega (arith, a.few k, need-mono text r (i + k) (n + k) (omega arith)); gives = a.gives }

module _ {X A : Type 0} {R S : X → Reader A} {pre : X → List ℕ} {code : A → List ℕ} {text ops ops' : List ℕ} where
  pub same-as : {r s : Made} {n : ℕ} → ((x : X) (s : List ℕ) → R x s ≡ S x s) → Spends n S pre code text ops r ops' s → Spends n R pre code text ops r ops' s
  same-as h a = record { low = a.low; few = a.few; gives = same h a.gives }

  -- another reader goes on, from a state that has i bytes less ahead
  pub led-by : (i : ℕ) {r m s : Made} {j n : ℕ} → j ≤ i + n → ahead text m ≤ ahead text r → ((k : ℕ) → need (i + k) text m ≤ need k text r) → Leads R S text r m
      → Spends j S pre code text ops m ops' s → Spends n R pre code text ops r ops' s
  led-by i {m} {j} {n} h l f e a =
      record { low = omega arith; few = λ k. omega (arith, a.few k, need-mono text m (j + k) (i + (n + k)) (omega arith), f (n + k)); gives = led e a.gives }

  pub led-here : {r s : Made} {n : ℕ} → Leads R S text r r → Spends n S pre code text ops r ops' s → Spends n R pre code text ops r ops' s
  led-here e a = record { low = a.low; few = a.few; gives = led e a.gives }

  pub led-over : {r m s : Made} {j n : ℕ} → j ≤ suc n → Over text r m → Leads R S text r m → Spends j S pre code text ops m ops' s
      → Spends n R pre code text ops r ops' s
  led-over {m} {n} h o = led-by 1 {n = n} (omega arith) (omega arith) (λ k. omega (arith, o.spare k, need-mono text m (1 + k) (suc k) (omega arith)))

-- no reading
pub failed : {X A : Type 0} {R : X → Reader A} {pre : X → List ℕ} {code : A → List ℕ} {text ops ops' : List ℕ} {n : ℕ} (r : Made)
    → ((x : X) (s : List ℕ) → R x s ≡ nothing) → Spends n R pre code text ops r ops' None
failed None h = record { low = omega arith; few = λ k. omega arith; gives = stopped }
failed (Some (c, o)) h = record { low = omega arith; few = λ k. omega arith; gives = refused (λ x. h x _) }

pub missing : {A : Type 0} {F : Reader A} {code : A → List ℕ} {text ops ops' : List ℕ} {r : Made} {n : ℕ} → Absent F text r
    → Spends n (only F) bare code text ops r ops' None
missing stopped = record { low = omega arith; few = λ k. omega arith; gives = stopped }
missing (absent e) = record { low = omega arith; few = λ k. omega arith; gives = refused (λ x. e) }

-- At a sign
module _ {X A : Type 0} {text : List ℕ} (name : String) where
  key-leads : {R : X → Reader A} {r m : Made} → KeyIs (number name) text r m → Leads (λ x. key name (R x)) R text r m
  key-leads stopped = stopped
  key-leads {R} (refused h) = refused (λ x. if-other name (R x) fail _ h)
  key-leads {R} (there (stood e l h)) = onto (λ x. if-there name (R x) fail _ e) (λ i. h)

  if-leads : {R : X → Reader A} (S : X → Reader A) {r m : Made} → Stood a_sign (number name) text r m → Leads (λ x. if_key name (R x) (S x)) R text r m
  if-leads {R} S (stood e l h) = onto (λ x. if-there name (R x) (S x) _ e) (λ i. h)

  else-leads : (R : X → Reader A) {S : X → Reader A} {r : Made} → Unless (number name) text r → Leads (λ x. if_key name (R x) (S x)) S text r r
  else-leads R halted = stopped
  else-leads R {S} (unless h) = onto (λ x. if-other name (R x) (S x) _ h) (λ i. i)

  module _ {pre : X → List ℕ} {code : A → List ℕ} {ops ops' : List ℕ} where
    pub past-key : {R : X → Reader A} {r m s : Made} {j n : ℕ} → j ≤ suc n → KeyIs (number name) text r m → Spends j R pre code text ops m ops' s
        → Spends n (λ x. key name (R x)) pre code text ops r ops' s
    past-key {m} {n} h k =
        led-by 1 {n = n} (omega arith) (key-low k) (λ j. omega (arith, key-spare k j, need-mono text m (1 + j) (suc j) (omega arith))) (key-leads k)

    pub if_past : {R : X → Reader A} (S : X → Reader A) {r m s : Made} {j n : ℕ} → j ≤ suc n → Stood a_sign (number name) text r m
        → Spends j R pre code text ops m ops' s → Spends n (λ x. if_key name (R x) (S x)) pre code text ops r ops' s
    if_past S h k = led-over h (stood-over k) (if-leads S k)

    pub if-not : (R : X → Reader A) {S : X → Reader A} {r s : Made} {n : ℕ} → Unless (number name) text r → Spends n S pre code text ops r ops' s
        → Spends n (λ x. if_key name (R x) (S x)) pre code text ops r ops' s
    if-not R k = led-here (else-leads R k)

    pub if-may : {R : X → Reader A} {r m s : Made} {n : ℕ} → MayIs (number name) text r m → Spends n R pre code text ops m ops' s
        → Spends n (λ x. may name (R x)) pre code text ops r ops' s
    if-may {R} (gone k) a = led-over (omega arith) (stood-over k) (if-leads R k) a
    if-may {R} (kept k) a = led-here (else-leads R k) a

-- Operations that are all of what is read
whole : {X A : Type 0} {pre : X → List ℕ} {code : A → List ℕ} {text ops ops' w : List ℕ} {r s : Made} (g : X → A) → ((x : X) → code (g x) ≡ pre x ++ w)
    → Puts w ops r ops' s → Gives (λ x. give (g x)) pre code text ops ops' r s
whole g c halted = stopped
whole {w} g c puts = given g w (λ x. refl) c (λ i. i) (record { pos = refl; buf = refl })

puts_low : (text : List ℕ) {w ops ops' : List ℕ} {r s : Made} → Puts w ops r ops' s → ahead text s ≤ ahead text r
puts_low text halted = omega arith
puts_low text puts = omega arith

pub puts-few : (text : List ℕ) {w ops ops' : List ℕ} {r s : Made} → Puts w ops r ops' s → (k : ℕ) → need k text s ≤ need (length w + k) text r
puts-few text halted k = omega arith
puts-few text puts k = omega arith

pub all-put : {X A : Type 0} {pre : X → List ℕ} {code : A → List ℕ} {text ops ops' w : List ℕ} {r s : Made} (g : X → A)
    → ((x : X) → code (g x) ≡ pre x ++ w) → Puts w ops r ops' s → Spends (length w) (λ x. give (g x)) pre code text ops r ops' s
all-put {text} g c p = record { low = puts_low text p; few = puts-few text p; gives = whole g c p }

pub puts_none : {ops : List ℕ} (s : Made) → Puts [] ops s ops s
puts_none None = halted
puts_none {ops} (Some (c, o)) = let e : o + 0 ≡ o = omega arith in subst (λ n. Puts [] ops (Some (c, o)) ops (Some (c, n))) e puts

wrote-puts : {ops ops' w : List ℕ} {c : Cursor} {o n : ℕ} → WroteOps ops o w ops' n → Puts w ops (Some (c, o)) ops' (Some (c, n))
wrote-puts w = rw (w.pos, w.buf) puts

pub puts_then : {v : ℕ} {ops ops1 ops2 w : List ℕ} {r s t : Made} → Puts w ops r ops1 s → Written v ops1 s ops2 t → Puts (w ++ (v ∷ [])) ops r ops2 t
puts_then halted stopped = halted
puts_then {v} {w} puts written = wrote-puts (wrote-both {w = w} (record { pos = refl; buf = refl }) (wrote_one v refl))

pub written-puts : {v : ℕ} {ops ops' : List ℕ} {r s : Made} → Written v ops r ops' s → Puts (v ∷ []) ops r ops' s
written-puts stopped = halted
written-puts written = puts

-- The room
module _ {text : List ℕ} where
  pub room-low : {ops : List ℕ} {r : Made} {i n : ℕ} → i ≤ n → Room n text ops r → Room i text ops r
  room-low {r} {i} {n} h a = record { fits = omega (arith, need-mono text r (i) (n) h); small = a.small }

  pub room-spent : {X A : Type 0} {R : X → Reader A} {pre : X → List ℕ} {code : A → List ℕ} {ops ops1 : List ℕ} {r s : Made} {i j n : ℕ} → i + j ≤ n
      → Room n text ops r → Spends i R pre code text ops r ops1 s → length ops1 ≡ length ops → Room j text ops1 s
  room-spent {r} {i} {j} {n} h a b e = record { fits = omega (arith, b.few j, need-mono text r (i + j) (n) h); small = a.small }

  pub room-reads : {X A : Type 0} {R : X → Reader A} {pre : X → List ℕ} {code : A → List ℕ} {ops ops1 : List ℕ} {r s : Made} {n : ℕ}
      → Room n text ops r → Reads R pre code text ops r ops1 s → length ops1 ≡ length ops → Room n text ops1 s
  room-reads {n} a b e = record { fits = omega (arith, b.few n); small = a.small }

  pub room-key : {ops : List ℕ} {r s : Made} {k n : ℕ} → Room n text ops r → KeyIs k text r s → Room (suc n) text ops s
  room-key {n} a k = record { fits = omega (arith, key-spare k n); small = a.small }

  pub room-over : {ops : List ℕ} {r s : Made} {n : ℕ} → Room n text ops r → Over text r s → Room (suc n) text ops s
  room-over {n} a o = record { fits = omega (arith, o.spare n); small = a.small }

  pub may-low : {r s : Made} {k : ℕ} → MayIs k text r s → ahead text s ≤ ahead text r
  may-low (gone k) = let o = stood-over k in omega arith
  may-low (kept k) = omega arith

  pub room-long : {ops : List ℕ} {r s : Made} → Room 0 text ops r → Long text r s → Room 2 text ops s
  room-long a o = record { fits = omega (arith, o.spare 0); small = a.small }

  pub room-may : {ops : List ℕ} {r s : Made} {k n : ℕ} → Room n text ops r → MayIs k text r s → Room n text ops s
  room-may a (gone k) = room-low (omega arith) (room-over a (stood-over k))
  room-may a (kept k) = a

  pub room-written : {ops ops1 : List ℕ} {r s : Made} {v n : ℕ} → Room (suc n) text ops r → Written v ops r ops1 s → length ops1 ≡ length ops → Room n text ops1 s
  room-written {n} a w e = record { fits = omega (arith, written-need w text n); small = a.small }

  pub room-write : {ops : List ℕ} {r : Made} {n : ℕ} → Room (suc n) text ops r → filled r ≤ length ops
  room-write {r} {n} a = omega (arith, filled-need text r, need-mono text r (1) (suc n) (omega arith))

-- The loops
module _ {A : Type 0} (n : ℕ) (F : Reader A) (code : A → List ℕ) (text ops₀ : List ℕ) (r₀ : Made) where
  -- a loop has come from r₀ to r: what F reads from r on, and the operations of that, make what it reads from r₀ on
  pub record Proceeds (ops : List ℕ) (r : Made) : Type 0 where
    pub room : Room n text ops r
    pub on : (ops' : List ℕ) (s : Made) → Spends n (only F) bare code text ops r ops' s → Spends n (only F) bare code text ops₀ r₀ ops' s
    pub size : length ops ≡ length ops₀

pub proceeds-none : {A : Type 0} {F : Reader A} {code : A → List ℕ} {text ops : List ℕ} {r : Made} {n : ℕ} → Room n text ops r
    → Proceeds n F code text ops r ops r
proceeds-none h = record { room = h; on = λ ops' s y. y; size = refl }
