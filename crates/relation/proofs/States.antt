-- Readers from state to state: one after another, past a sign, and with an operation written. Assumes nothing.
use Rattle.std.specs.Prelude.{Option, None, Some}
use Prim.Native.Nat.{ℕ, suc, ◌+◌, ◌≤◌}
use Prim.Native.String.{String}
use mathlib.Core.Path.{◌≡◌, refl, sym, ap, ◌∙◌}
use mathlib.Core.List.{List, [], ◌∷◌, ◌++◌, append_assoc, append-nil}
use native.Mathlib.Nat.{add-zero}
use native.Mathlib.Omega.{arith}
use lib.ListN.{length, set, length-append, length-set}
use lib.Seq.{sets}
use Rattle.nibl.specs.Words.{number}
use Rattle.nibl.specs.found.Read.{Reader, fail, give, key, ◌>>=◌}
use Rattle.word.specs.declared.Cursor.{Cursor}
use Rattle.relation.specs.Makes.{ahead, need, filled, WroteOps, Written, written, Gives, stopped, refused, given, Reads, Over, Leads, onto, only, bare, stood, KeyIs, there, standing, waiting, settled, Settles, nothing_waits, last_came}
use Rattle.relation.specs.Made.{Made}
use Rattle.relation.proofs.Readers.{then_found, then-nothing, if-there, if-other}

-- What was written
sets-append : (w w' l : List ℕ) (i : ℕ) → sets l i (w ++ w') ≡ sets (sets l i w) (i + length w) w'
sets-append [] w' l i = rw add-zero
sets-append (a ∷ w) w' l i =
    let e : suc i + length w ≡ i + suc (length w) = omega arith in
    sets-append w w' (set l i a) (suc i) ∙ ap (λ k. sets (sets (set l i a) (suc i) w) k w') e

wrote_none : {ops : List ℕ} {o : ℕ} → WroteOps ops o [] ops o
wrote_none = record { pos = omega arith; buf = refl }

wrote_one : {ops : List ℕ} {o : ℕ} (v : ℕ) → WroteOps ops o (v ∷ []) (set ops o v) (o + 1)
wrote_one v = record { pos = omega arith; buf = refl }

pub wrote-both : {ops ops1 ops2 w w' : List ℕ} {o n p : ℕ} → WroteOps ops o w ops1 n → WroteOps ops1 n w' ops2 p → WroteOps ops o (w ++ w') ops2 p
wrote-both {ops} {w} {w'} {o} a b = record { pos = omega (arith, length-append w w'); buf = b.buf ∙ rw (a.buf, a.pos) (sym (sets-append w w' ops o)) }

-- How the states lie
pub more-need : (k : ℕ) (text : List ℕ) (r : Made) → need k text r ≤ need (suc k) text r
more-need k text None = omega arith
more-need k text (Some (c, o)) = omega arith

pub filled-need : (text : List ℕ) (r : Made) → filled r ≤ need 1 text r
filled-need text None = omega arith
filled-need text (Some (c, o)) = omega arith

module _ {text : List ℕ} {r s : Made} where
  pub over-few : Over text r s → (k : ℕ) → need k text s ≤ need k text r
  over-few o k = omega (arith, o.spare k, more-need k text s)

  pub over-filled : Over text r s → filled s ≤ need 0 text r
  over-filled o = omega (arith, o.spare 0, filled-need text s)

  pub reads-filled : {X A : Type 0} {R : X → Reader A} {pre : X → List ℕ} {code : A → List ℕ} {ops ops' : List ℕ} → Reads R pre code text ops r ops' s → filled s ≤ need 1 text r
  reads-filled y = omega (arith, y.few 1, filled-need text s)

module _ {text : List ℕ} where
  pub key-low : {k : ℕ} {r s : Made} → KeyIs k text r s → ahead text s ≤ ahead text r
  key-low stopped = omega arith
  key-low (refused h) = omega arith
  key-low (there (stood e l h)) = omega arith

  pub key-spare : {k : ℕ} {r s : Made} → KeyIs k text r s → (j : ℕ) → need (suc j) text s ≤ need j text r
  key-spare stopped j = omega arith
  key-spare (refused h) j = omega arith
  key-spare (there (stood e l h)) j = omega arith

  pub key-filled : {k : ℕ} {r s : Made} → KeyIs k text r s → filled s ≤ need 0 text r
  key-filled {s} h = omega (arith, key-spare h 0, filled-need text s)

  pub key-few : {k : ℕ} {r s : Made} → KeyIs k text r s → (j : ℕ) → need j text s ≤ need j text r
  key-few {s} h j = omega (arith, key-spare h j, more-need j text s)

pub written_none : {v : ℕ} {ops : List ℕ} {r : Made} → r ≡ None → Written v ops r ops None
written_none e = rw e stopped

pub written_next : {v o : ℕ} {ops : List ℕ} {r : Made} {c : Cursor} → r ≡ Some (c, o) → Written v ops r (set ops o v) (Some (c, (o + 1)))
written_next e = rw e written

pub written-ahead : {v : ℕ} {ops ops' : List ℕ} {r s : Made} → Written v ops r ops' s → (text : List ℕ) → ahead text s ≡ ahead text r
written-ahead stopped text = refl
written-ahead written text = refl

pub written-need : {v : ℕ} {ops ops' : List ℕ} {r s : Made} → Written v ops r ops' s → (text : List ℕ) (k : ℕ) → need k text s ≤ need (suc k) text r
written-need stopped text k = omega arith
written-need written text k = omega arith

-- The operation that waited, once it has its last operand
pub settles-ahead : {w : Option ℕ} {ops ops' : List ℕ} {r s : Made} → Settles ops w r ops' s → (text : List ℕ) → ahead text s ≡ ahead text r
settles-ahead stopped text = refl
settles-ahead nothing_waits text = refl
settles-ahead last_came text = refl

pub settles-need : {w : Option ℕ} {ops ops' : List ℕ} {r s : Made} → Settles ops w r ops' s → (text : List ℕ) (k : ℕ) → need k text s ≤ need (k + waiting w) text r
settles-need stopped text k = omega arith
settles-need nothing_waits text k = omega arith
settles-need last_came text k = omega arith

pub settles-size : {w : Option ℕ} {ops ops' : List ℕ} {r s : Made} → Settles ops w r ops' s → length ops' ≡ length ops
settles-size stopped = refl
settles-size nothing_waits = refl
settles-size {ops = ops} (last_came {v} {o = o}) = length-set ops o v

pub settles-written : {v : ℕ} {ops ops' : List ℕ} {r s : Made} → Settles ops (Some v) r ops' s → Written v ops r ops' s
settles-written stopped = stopped
settles-written last_came = written

-- what the code learns of it
pub settles-here : (w : Option ℕ) {ops ops' : List ℕ} {at o n : ℕ} → ops' ≡ settled w ops o → n ≡ o + waiting w → Settles ops w (standing at o) ops' (standing at n)
settles-here None {ops} {ops'} {at} {o} {n} e f = let q : n ≡ o = omega arith in rw (e, q) nothing_waits
settles-here (Some v) e f = rw (e, f) last_came

pub last-here : {v : ℕ} {w : Option ℕ} {ops ops' : List ℕ} {at o n : ℕ} → w ≡ Some v → ops' ≡ set ops o v → n ≡ o + 1 → Settles ops w (standing at o) ops' (standing at n)
last-here h e f = rw (h, e, f) last_came

pub none-here : {w : Option ℕ} {ops : List ℕ} {at o : ℕ} → w ≡ None → Settles ops w (standing at o) ops (standing at o)
none-here h = rw h nothing_waits

pub written-here : {v : ℕ} {ops ops' : List ℕ} {at o n : ℕ} → ops' ≡ set ops o v → n ≡ o + 1 → Written v ops (standing at o) ops' (standing at n)
written-here e f = rw (e, f) written

-- One reader after another
module _ {X A B : Type 0} {text : List ℕ} where
  pub chain : {F : X → Reader A} {Q : A → Reader B} {pre : X → List ℕ} {code : A → List ℕ} {code' : B → List ℕ} {ops ops1 ops2 : List ℕ} {r s t : Made}
      → Gives F pre code text ops ops1 r s → Gives Q code code' text ops1 ops2 s t → Gives (λ x. F x >>= Q) pre code' text ops ops2 r t
  chain stopped stopped = stopped
  chain {F} {Q} (refused e) stopped = refused (λ x. then-nothing (F x) Q _ (e x))
  chain {F} {Q} (given grow tail e f h w) (refused e') = refused (λ x. then_found (F x) Q _ (e x) ∙ e' (grow x))
  chain {F} {Q} {pre} (given grow tail e f h w) (given grow' tail' e' f' h' w') =
      given (λ x. grow' (grow x)) (tail ++ tail') (λ x. then_found (F x) Q _ (e x) ∙ e' (grow x))
      (λ x. f' (grow x) ∙ ap (λ l. l ++ tail') (f x) ∙ append_assoc (pre x) tail tail') (λ i. h' (h i)) (wrote-both w w')

  -- and an operation, which joins what was read to what was read before
  pub closing : {F : Reader A} {pre : X → List ℕ} {code : A → List ℕ} {code' : B → List ℕ} {ops ops1 ops2 : List ℕ} {r s t : Made} {v : ℕ} (g : X → A → B)
      → ((x : X) (a : A) → code' (g x a) ≡ pre x ++ (code a ++ (v ∷ []))) → Gives (only F) bare code text ops ops1 r s → Written v ops1 s ops2 t
      → Gives (λ x. F >>= (λ a. give (g x a))) pre code' text ops ops2 r t
  closing g c stopped stopped = stopped
  closing {F} g c (refused e) stopped = refused (λ x. then-nothing F _ _ (e tt))
  closing {F} {pre} {v} g c (given grow tail e f h w) written =
      given (λ x. g x (grow tt)) (tail ++ (v ∷ [])) (λ x. then_found F _ _ (e tt)) (λ x. c x (grow tt) ∙ ap (λ l. pre x ++ (l ++ (v ∷ []))) (f tt)) h (wrote-both w (wrote_one v))

-- The same by another reader
module _ {X A : Type 0} {text : List ℕ} where
  pub leads-as : {R S T : X → Reader A} {r m : Made} → ((x : X) (s : List ℕ) → R x s ≡ S x s) → Leads S T text r m → Leads R T text r m
  leads-as e stopped = stopped
  leads-as e (refused f) = refused (λ x. e x _ ∙ f x)
  leads-as e (onto f h) = onto (λ x. e x _ ∙ f x) h

  pub leads-on : {R S T : X → Reader A} {r m n : Made} → Leads R S text r m → Leads S T text m n → Leads R T text r n
  leads-on stopped stopped = stopped
  leads-on (refused e) stopped = refused e
  leads-on (onto e h) (refused f) = refused (λ x. e x ∙ f x)
  leads-on (onto e h) (onto f i) = onto (λ x. e x ∙ f x) (λ j. i (h j))

module _ {X A : Type 0} {R S : X → Reader A} {pre : X → List ℕ} {code : A → List ℕ} {text ops ops' : List ℕ} where
  pub led : {r m s : Made} → Leads R S text r m → Gives S pre code text ops ops' m s → Gives R pre code text ops ops' r s
  led stopped stopped = stopped
  led (refused e) stopped = refused e
  led (onto e h) (refused f) = refused (λ x. e x ∙ f x)
  led (onto e h) (given grow tail f g i w) = given grow tail (λ x. e x ∙ f x) g (λ j. i (h j)) w

  pub same : {r s : Made} → ((x : X) (s : List ℕ) → R x s ≡ S x s) → Gives S pre code text ops ops' r s → Gives R pre code text ops ops' r s
  same h stopped = stopped
  same h (refused e) = refused (λ x. h x _ ∙ e x)
  same h (given grow tail e f i w) = given grow tail (λ x. h x _ ∙ e x) f i w

-- The same states by other names
module _ {X A : Type 0} {R : X → Reader A} {pre : X → List ℕ} {code : A → List ℕ} {text ops ops' : List ℕ} {r s q : Made} where
  pub from-state : r ≡ q → Reads R pre code text ops q ops' s → Reads R pre code text ops r ops' s
  from-state e y = rw e y

  pub to-state : s ≡ q → Reads R pre code text ops r ops' s → Reads R pre code text ops r ops' q
  to-state e y = rw e at y

module _ {A : Type 0} {code : A → List ℕ} {text : List ℕ} where
  -- nothing is read
  pub idle : {ops : List ℕ} (s : Made) → Gives give code code text ops ops s s
  idle None = stopped
  idle (Some (c, o)) = given (λ a. a) [] (λ a. refl) (λ a. sym (append-nil (code a))) (λ i. i) wrote_none

  -- one operation is what was read
  pub single : {ops ops' : List ℕ} {r s : Made} {v : ℕ} (a : A) → code a ≡ v ∷ [] → Written v ops r ops' s → Gives (only (give a)) bare code text ops ops' r s
  single a e stopped = stopped
  single {v} a e written = given (λ x. a) (v ∷ []) (λ x. refl) (λ x. e) (λ i. i) (wrote_one v)

  -- a sign must follow
  pub signed : {ops : List ℕ} {r s : Made} (name : String) → KeyIs (number name) text r s → Gives (λ a. key name (give a)) code code text ops ops r s
  signed name stopped = stopped
  signed name (refused h) = refused (λ a. if-other name (give a) fail _ h)
  signed name (there (stood e l h)) = given (λ a. a) [] (λ a. if-there name (give a) fail _ e) (λ a. sym (append-nil (code a))) (λ i. h) wrote_none

-- a sign must stand before
pub opened : {A : Type 0} {text : List ℕ} {r s : Made} (name : String) (R : Reader A) → KeyIs (number name) text r s → Leads (only (key name R)) (only R) text r s
opened name R stopped = stopped
opened name R (refused h) = refused (λ x. if-other name R fail _ h)
opened name R (there (stood e l h)) = onto (λ x. if-there name R fail _ e) (λ i. h)
