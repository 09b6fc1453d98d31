-- A reply's assignments, one relation at a time. Assumes nothing.
use Rattle.std.specs.Prelude.{if◌then◌else◌}
use Rattle.std.specs.Prelude.{Result, Ok, Err}
use Rattle.std.specs.Result.{is_err}
use Rattle.reader.specs.declared.Unread.{Unread}
use Rattle.reader.specs.declared.Unread.TheVariants as unread
use Prim.Native.Nat.{ℕ, suc, ◌+◌, ◌-◌, ◌≤◌, ◌<◌}
use mathlib.Core.Path.{◌≡◌, refl, sym, ap, ◌∙◌}
use mathlib.Core.Bool.{true, false, true≢false}
use mathlib.Core.List.{List, [], ◌∷◌}
use mathlib.Core.Option.{Option, none, some}
use native.Mathlib.Numerals.{add-one}
use native.Mathlib.Omega.{arith}
use lib.ListN.{length, take, drop, get_or, drop_of_length-le}
use lib.Seq.{drop-cons}
use Rattle.nibl.specs.Tree.{Expr}
use Rattle.nibl.specs.Values.{is, no, Value}
use Rattle.nibl.specs.found.Read.{cons_some, replied}
use Rattle.nibl.specs.Meaning.{on, stop}
use Rattle.word.specs.declared.Cursor.{Cursor}
use Rattle.relation.specs.Code.{values}
use Rattle.reader.specs.Answers.{has_room}
use Rattle.line.specs.Answers.{list_of}
use Rattle.line.proofs.InTurn.{left_of, none_left, all_left, InTurn}
use Rattle.codes.specs.Codes.{argument_in}
use Rattle.operation.specs.Operations.{Sources, variables_of}
use Rattle.operation.specs.Stacks.{worked, Assigned, assigned_to, on_value, with_value, assigning_all, assigning}

-- The relations and the variables that are left
none-assigned : (s : Sources) (vs : List ℕ) → assigning_all s vs [] ≡ assigned_to on s.vars
unfolding assigning_all
none-assigned s [] = refl
none-assigned s (v ∷ vs) = refl

no-variables : (s : Sources) (o : Option (List Expr)) → list_of o ≡ Ok tt → assigning s [] o ≡ assigned_to on s.vars
unfolding assigning_all
no-variables s none h = let z : ◌≡◌ {A = ℕ} 0 1 = cc in absurd (omega arith)
no-variables s (some es) h = refl

module _ (s : Sources) (v : ℕ) (vs : List ℕ) (a : Expr) where
  value-assigned : (o : Option (List Expr)) (x : ℕ) → list_of o ≡ Ok tt → worked s (values a) ≡ is x
      → assigning s (v ∷ vs) (cons_some a o) ≡ assigning (with_value s v x) vs o
  unfolding assigning_all
  value-assigned none x h e = let z : ◌≡◌ {A = ℕ} 0 1 = cc in absurd (omega arith)
  value-assigned (some es) x h e = ap (λ (r : Value). on_value r s.vars (λ y. assigning_all (with_value s v y) vs es)) e

  value-refused : (o : Option (List Expr)) (m : ℕ) → list_of o ≡ Ok tt → worked s (values a) ≡ no m
      → assigning s (v ∷ vs) (cons_some a o) ≡ assigned_to (stop m) s.vars
  unfolding assigning_all
  value-refused none m h e = let z : ◌≡◌ {A = ℕ} 0 1 = cc in absurd (omega arith)
  value-refused (some es) m h e = ap (λ (r : Value). on_value r s.vars (λ y. assigning_all (with_value s v y) vs es)) e

cons-reads : (a : Expr) (o : Option (List Expr)) → list_of (cons_some a o) ≡ Ok tt → list_of o ≡ Ok tt
cons-reads a none h = h
cons-reads a (some es) h = refl

next-variable : (rest : List ℕ) (i : ℕ) → i < length rest → variables_of (drop i rest) ≡ argument_in (get_or rest i 0) ∷ variables_of (drop (i + 1) rest)
next-variable rest i h = rw (add-one, drop-cons rest i 0 h) refl

-- What is left at a turn of the loop: from a position of the reply and from a variable on, the whole is still to be done
pub record Remains (n : ℕ) (text rest : List ℕ) (whole : Assigned) (s : Sources) (at i : ℕ) : Type 0 where
  pub reads : list_of (left_of (n - i) (drop at text)) ≡ Ok tt
  pub same : whole ≡ assigning s (variables_of (drop i rest)) (left_of (n - i) (drop at text))

module _ (n : ℕ) (text rest : List ℕ) where
  pub begins : (s : Sources) → list_of (replied n text) ≡ Ok tt → Remains n text rest (assigning s (variables_of rest) (replied n text)) s 0 0
  begins s h =
      let z : n - 0 ≡ n = omega arith in
      let e = all_left n text h in
      record { reads = rw (z, e) h; same = rw (z, e) refl }

  module _ {whole : Assigned} (s : Sources) (at i : ℕ) (r : Remains n text rest whole s at i) where
    pub replied-out : n ≤ i → assigned_to on s.vars ≡ whole
    replied-out h =
        let z : n - i ≡ 0 = omega arith in
        sym (r.same ∙ rw (z, none_left (drop at text)) (none-assigned s (variables_of (drop i rest))))

    pub variables-out : length rest ≤ i → assigned_to on s.vars ≡ whole
    variables-out h = sym (r.same ∙ rw (drop_of_length-le rest h) (no-variables s (left_of (n - i) (drop at text)) r.reads))

    more_left : i < n → n - i ≡ suc (n - (i + 1))
    more_left h = omega arith

    pub first_reads : i < n → list_of (left_of (suc (n - (i + 1))) (drop at text)) ≡ Ok tt
    first_reads h = rw (more_left h) at r.reads

    module _ {ops : List ℕ} {k : ℕ} {c : Cursor} (t : InTurn (n - (i + 1)) text at ops k c) (l : i < n) (m : i < length rest) where
      by_turn : whole ≡ assigning s (argument_in (get_or rest i 0) ∷ variables_of (drop (i + 1) rest)) (cons_some t.tree (left_of (n - (i + 1)) (drop c.at text)))
      by_turn = r.same ∙ rw (more_left l, t.goes, next-variable rest i m) refl

      others-read : list_of (left_of (n - (i + 1)) (drop c.at text)) ≡ Ok tt
      others-read = cons-reads t.tree (left_of (n - (i + 1)) (drop c.at text)) (rw t.goes at (first_reads l))

      pub remains : (x : ℕ) → is x ≡ worked s (take k ops) → Remains n text rest whole (with_value s (argument_in (get_or rest i 0)) x) c.at (i + 1)
      remains x e =
          record {
            reads = others-read;
            same = by_turn ∙ value-assigned s (argument_in (get_or rest i 0)) (variables_of (drop (i + 1) rest)) t.tree (left_of (n - (i + 1)) (drop c.at text)) x others-read (sym (rw t.wrote at e));
          }

      pub refuses : (q : ℕ) → no q ≡ worked s (take k ops) → assigned_to (stop q) s.vars ≡ whole
      refuses q e =
          sym (by_turn ∙ value-refused s (argument_in (get_or rest i 0)) (variables_of (drop (i + 1) rest)) t.tree (left_of (n - (i + 1)) (drop c.at text)) q others-read (sym (rw t.wrote at e)))

-- Whether there is a reply
pub reply-read : (n : ℕ) (text ops : List ℕ) {r : Result (Unit {0}) Unread} → has_room text ops ≡ true → r ≡ (if has_room text ops then list_of (replied n text) else Err unread.NoRoom) → r ≡ list_of (replied n text)
reply-read n text ops h e = e ∙ rw h refl

pub no-reply : (s : Sources) (vs : List ℕ) (o : Option (List Expr)) {r : Result (Unit {0}) Unread} → r ≡ list_of o → is_err r ≡ true → assigned_to (stop 6) s.vars ≡ assigning s vs o
no-reply s vs none e t = refl
no-reply s vs (some es) e t = let f = rw e at t in absurd (true≢false (sym f))

pub reads : (r : Result (Unit {0}) Unread) → is_err r ≡ false → r ≡ Ok tt
reads (Ok u) h = refl
reads (Err e) h = absurd (true≢false h)
