-- Typed lines: one law for each answer. Assumes nothing.
use Rattle.std.specs.Prelude.{if◌then◌else◌}
use Rattle.std.specs.Prelude.{Ok as Done, Err}
use Rattle.reader.specs.declared.Unread.TheVariants as unread
use Prim.Native.Nat.{ℕ, zero, suc, ◌-◌, ◌≤◌}
use mathlib.Core.Path.{◌≡◌, refl, sym, ap, subst, ◌∙◌}
use mathlib.Core.Bool.{Bool, true, false, false≢true}
use mathlib.Core.List.{List, [], ◌∷◌}
use mathlib.Core.Option.{Option, none, some}
use native.Mathlib.Omega.{arith}
use borrow.Author.Tests.{leb-true, le-leb, ne_eqb, eqb-false}
use denote.Enum.Declared.{tag_of}
use types.Run.{OneOf}
use lib.ListN.{length, take, drop}
use lib.Seq.{sets}
use lib.Dec.{leb, eqb}
use Rattle.nibl.specs.Bytes.{is_space, past, all}
use Rattle.nibl.specs.Words.{Token, sign, keywords, commands, command, spaced, keyword, letter, decimal_digits, hex_digits, quoted, pair, symbol}
use Rattle.nibl.specs.Tree.{Stmt, Member, Typed, blank, new, clear, run, delete, list, immediate}
use Rattle.nibl.specs.found.Read.{FrontWord, step_in, at_end, Found, nothing, found, Reader, and_then, if_key, or_else, on_step, choose, decimal_of, sign_of, a_sign, a_decimal, ◌>>=◌, statement, ends_member, member, unread, reading, alone, storing, numbered, alone_statement, command_cases, unnumbered, typed}
use Rattle.nibl.specs.Calls.{needs_program}
use Rattle.nibl.proofs.Words.{if-split, and_left, and_right, all_true, true-all, word_sound, ended-sound, ended-complete}
use Rattle.nibl.proofs.Rules.{W, it, Ok, nil, one}
use Rattle.nibl.proofs.Lines.{C, command-same, typed-blank, typed-other}
use Rattle.nibl.proofs.Whole.{uncommanded}
use Rattle.nibl.proofs.Whole.{command-step as command-typed}
use Rattle.word.specs.declared.Cursor.{Cursor}
use Rattle.word.specs.declared.Word.{Word}
use Rattle.word.specs.declared.Word.TheVariants.{Variable, Decimal, Hex, Text, Sign, End, Wrong}
use Rattle.word.specs.Found.{found_step, WordIs, may_command}
use Rattle.word.specs.contracts.Word.{the_type}
use Rattle.word.proofs.Firsts.{front-stands}
use Rattle.reader.specs.Code.{compile}
use Rattle.reader.specs.Answers.{has_room, zeros, member_ops}
use Rattle.line.specs.Answers.{list_of, is_command, some_need, kind_of, line_ops, plain}
use Rattle.line.specs.declared.LineRead.{LineRead}
use Rattle.line.specs.declared.LineRead.TheVariants as line
use Rattle.line.proofs.Short.{member-short}
use Rattle.line.proofs.Codes.{needs-exact, written-front}
use Rattle.line.proofs.Lists.{First}

-- Nothing but spaces
unended : (text : List ℕ) (w : Word) → (w ≡ End → ⊥) → found_step text w ≡ at_end → ⊥
unended text (Variable v c) n e = let z : ◌≡◌ {A = ℕ} 0 1 = cc in omega arith
unended text (Decimal v c) n e = let z : ◌≡◌ {A = ℕ} 0 1 = cc in omega arith
unended text (Hex v c) n e = let z : ◌≡◌ {A = ℕ} 0 1 = cc in omega arith
unended text (Text i j c) n e = let z : ◌≡◌ {A = ℕ} 0 1 = cc in omega arith
unended text (Sign k c) n e = let z : ◌≡◌ {A = ℕ} 0 1 = cc in omega arith
unended text End n e = n refl
unended text (Wrong c) n e = let z : ◌≡◌ {A = ℕ} 0 1 = cc in omega arith

module _ {text : List ℕ} {at : ℕ} where
  pub blank-end : {w : Word} → w ≡ End → WordIs keywords text at w → all is_space (drop at text) ≡ true
  blank-end e h = all_true (ended-sound keywords (drop at text) (sym h.same ∙ ap (found_step text) e))

  pub unblank : (w : Word) → (w ≡ End → ⊥) → WordIs keywords text at w → all is_space (drop at text) ≡ false
  unblank w n h = go (all is_space (drop at text)) refl
    where
      go : (b : Bool) → all is_space (drop at text) ≡ b → b ≡ false
      go true e = absurd (unended text w n (h.same ∙ ended-complete keywords (true-all is_space (drop at text) e)))
      go false e = refl

-- a word whose kind is none of these
pub no_end : (ks : List ℕ) {w : Word} → (OneOf ks 5 → ⊥) → OneOf ks (tag_of the_type w) → w ≡ End → ⊥
no_end ks n k e = n (subst (λ (q : Word). OneOf ks (tag_of the_type q)) e k)

pub undone : {w : Word} {n : ℕ} {c : Cursor} → w ≡ Decimal n c → w ≡ End → ⊥
undone e d = let z : ◌≡◌ {A = ℕ} 0 1 = cc in omega arith

-- A line that is this and spaces
pub kind-alone : (n : ℕ) (y : Typed) (s : List ℕ) → kind_of n (alone y s) ≡ (if all is_space s then kind_of n (some y) else line.NoReading)
kind-alone n y s = go (all is_space s)
  where
    go : (b : Bool) → kind_of n (if b then some y else none) ≡ (if b then kind_of n (some y) else line.NoReading)
    go true = refl
    go false = refl

-- A decimal constant
undecimal : (text : List ℕ) (w : Word) → ((n : ℕ) (c : Cursor) → w ≡ Decimal n c → ⊥) → on_step (found_step text w) decimal_of ≡ nothing
undecimal text (Variable v c) n = refl
undecimal text (Decimal v c) n = absurd (n v c refl)
undecimal text (Hex v c) n = refl
undecimal text (Text i j c) n = refl
undecimal text (Sign k c) n = refl
undecimal text End n = refl
undecimal text (Wrong c) n = refl

module _ {text : List ℕ} {at : ℕ} where
  decimal_step : {w : Word} → WordIs keywords text at w → a_decimal (drop at text) ≡ on_step (found_step text w) decimal_of
  unfolding a_decimal
  decimal_step h = ap (λ (s : FrontWord). on_step s decimal_of) (sym h.same)

  pub decimal-found : {w : Word} {n : ℕ} {c : Cursor} → w ≡ Decimal n c → WordIs keywords text at w → a_decimal (drop at text) ≡ found n (drop c.at text)
  decimal-found e h = decimal_step h ∙ ap (λ (q : Word). on_step (found_step text q) decimal_of) e

  pub no-decimal : (ks : List ℕ) (w : Word) → (OneOf ks 1 → ⊥) → OneOf ks (tag_of the_type w) → WordIs keywords text at w → a_decimal (drop at text) ≡ nothing
  no-decimal ks w n k h = decimal_step h ∙ undecimal text w (λ v c e. n (subst (λ (q : Word). OneOf ks (tag_of the_type q)) e k))

-- What follows LIST
abbrev listing : List ℕ → Option Typed
listing s = or_else (a_decimal s) (λ n. alone (list n)) (alone (list 0)) s

pub list-number : (m : ℕ) (s : List ℕ) {t : List ℕ} {n : ℕ} → a_decimal s ≡ found n t
    → (if all is_space t then line.List (record { 0 = n }) else line.NoReading) ≡ kind_of m (listing s)
list-number m s {t} {n} e = sym (ap (λ (f : Found ℕ). kind_of m (or_else f (λ k. alone (list k)) (alone (list 0)) s)) e ∙ kind-alone m (list n) t)

pub list-whole : (m : ℕ) (s : List ℕ) → a_decimal s ≡ nothing → (if all is_space s then line.List (record { 0 = 0 }) else line.NoReading) ≡ kind_of m (listing s)
list-whole m s e = sym (ap (λ (f : Found ℕ). kind_of m (or_else f (λ k. alone (list k)) (alone (list 0)) s)) e ∙ kind-alone m (list 0) s)

-- One statement, by the member that it is
abbrev only : Found Member → Option Typed
only nothing = none
only (found m t) = elim m.left [ zero ↦ some (immediate m.statement) | suc n ↦ none ]

sole-by-sign : (q : Stmt) (f : Found ℕ) (t : List ℕ)
    → none ≡ only (or_else f (choose ((58, λ u. found (record { statement = q; left = suc (length u) }) u) ∷ []) (λ u. nothing)) (λ u. nothing) t)
sole-by-sign q nothing t = refl
sole-by-sign q (found k u) t = go (eqb k 58)
  where
    go : (b : Bool) → none ≡ only (if◌then◌else◌ {A = Reader Member} b (λ v. found (record { statement = q; left = suc (length v) }) v) (λ v. nothing) u)
    go true = refl
    go false = refl

sole-by-spaces : (q : Stmt) (t : List ℕ) → alone (immediate q) t ≡ only (ends_member q t)
unfolding if_key
sole-by-spaces q t = go (all is_space t)
  where
    go : (b : Bool) → (if b then some (immediate q) else none)
        ≡ only (if b then found (record { statement = q; left = 0 }) [] else or_else (a_sign t) (choose ((58, λ u. found (record { statement = q; left = suc (length u) }) u) ∷ []) (λ u. nothing)) (λ u. nothing) t)
    go true = refl
    go false = sole-by-sign q (a_sign t) t

sole-by : (f : Found Stmt) (s : List ℕ) → or_else f (λ q. alone (immediate q)) unread s ≡ only (and_then f ends_member)
sole-by nothing s = refl
sole-by (found q t) s = sole-by-spaces q t

pub immediately-eq : (s : List ℕ) → alone_statement s ≡ only (member s)
unfolding member ◌>>=◌
immediately-eq s = sole-by (statement s) s

module _ (s : List ℕ) where
  pub immediate-none : member s ≡ nothing → alone_statement s ≡ none
  immediate-none e = immediately-eq s ∙ ap only e

  module _ {n left : ℕ} (f : First s n left) where
    sole : {l : ℕ} → f.one.left ≡ l → alone_statement s ≡ elim l [ zero ↦ some (immediate f.one.statement) | suc k ↦ none ]
    sole e = immediately-eq s ∙ ap only f.reads ∙ ap (λ (l : ℕ). elim l [ zero ↦ some (immediate f.one.statement) | suc k ↦ none ]) e

    pub immediate-one : left ≡ 0 → alone_statement s ≡ some (immediate f.one.statement)
    immediate-one z = sole (f.ends ∙ z)

    more_left : (l : ℕ) → f.one.left ≡ l → (l ≡ 0 → ⊥) → alone_statement s ≡ none
    more_left zero e z = absurd (z refl)
    more_left (suc k) e z = sole e

    pub immediate-more : (left ≡ 0 → ⊥) → alone_statement s ≡ none
    immediate-more z = more_left left f.ends z

    -- its operations fit, and tell whether only a program may have it
    pub count_fits : n ≤ length s
    count_fits = let e = f.count in omega (arith, member-short s f.rest f.one f.reads)

    pub immediate-needs : (ops : List ℕ) {w : List ℕ} {b : Bool} → length s ≤ length ops → w ≡ sets ops 0 (compile f.one.statement) → b ≡ some_need (take n w)
        → line.Immediate n b ≡ line.Immediate (length (compile f.one.statement)) (needs_program f.one.statement)
    immediate-needs ops {w} {b} l e h =
        let q = f.one.statement in
        let g : b ≡ needs_program q = h ∙ ap (λ (v : List ℕ). some_need (take n v)) e ∙ ap some_need (written-front ops (compile q) n f.count (omega (arith, count_fits))) ∙ needs-exact q in
        rw (g, f.count)

-- what the reader of a member left in the list
module _ (s ops : List ℕ) {w : List ℕ} (h : has_room s ops ≡ true) (e : w ≡ (if has_room s ops then member_ops ops (member s) else ops)) where
  pub left-none : member s ≡ nothing → w ≡ zeros ops
  left-none d = e ∙ rw h (ap (member_ops ops) d)

  pub left_one : {n left : ℕ} (f : First s n left) → w ≡ sets ops 0 (compile f.one.statement)
  left_one f = e ∙ rw h (ap (member_ops ops) f.reads)

-- A command
pub case_at : (n : ℕ) (s : List ℕ) {k j : ℕ} {r : LineRead} → k ≡ j → r ≡ kind_of n (choose command_cases unread j s) → r ≡ kind_of n (choose command_cases unread k s)
case_at n s e h = rw e h

pub case-none : (n : ℕ) (s : List ℕ) (k : ℕ) → (k ≡ (command "NEW") → ⊥) → (k ≡ (command "CLEAR") → ⊥) → (k ≡ (command "LIST") → ⊥) → (k ≡ (command "RUN") → ⊥) → line.NoReading ≡ kind_of n (choose command_cases unread k s)
case-none n s k a b c d = rw (ne_eqb k (command "NEW") a, ne_eqb k (command "CLEAR") b, ne_eqb k (command "LIST") c, ne_eqb k (command "RUN") d)

beside : (k : ℕ) → (command "NEW") ≤ k → k ≤ (command "RUN") → (k ≡ (command "NEW") → ⊥) → (k ≡ (command "CLEAR") → ⊥) → (k ≡ (command "LIST") → ⊥) → (k ≡ (command "RUN") → ⊥) → ⊥
beside k l m a b c d = omega arith

beyond : (k : ℕ) → (command "NEW") ≤ k → k ≤ (command "RUN") → is_command k ≡ false → ⊥
beyond k l m b = false≢true (sym b ∙ rw (le-leb (command "NEW") k l, le-leb k (command "RUN") m) refl)

abbrev choose4 : Bool → Bool → Bool → Bool → (List ℕ → Option Typed) → List ℕ → Option Typed
choose4 p q r t g =
    if p then alone new else if q then alone clear
    else if r then (λ s. or_else (a_decimal s) (λ n. alone (list n)) (alone (list 0)) s) else if t then alone run else g

-- by its number, whatever stands for the others
module _ (d : List ℕ → Option Typed) where
  named : (d' : List ℕ → Option Typed) (k : ℕ) (s : List ℕ) → (command "NEW") ≤ k → k ≤ (command "RUN") → choose command_cases d k s ≡ choose command_cases d' k s
  named d' k s l m = go (eqb k (command "NEW")) (eqb k (command "CLEAR")) (eqb k (command "LIST")) (eqb k (command "RUN")) (eqb-false k (command "NEW")) (eqb-false k (command "CLEAR")) (eqb-false k (command "LIST")) (eqb-false k (command "RUN"))
    where
      at : (List ℕ → Option Typed) → Bool → Bool → Bool → Bool → Option Typed
      at g p q r t = choose4 p q r t g s

      go : (p q r t : Bool) → (p ≡ false → k ≡ (command "NEW") → ⊥) → (q ≡ false → k ≡ (command "CLEAR") → ⊥) → (r ≡ false → k ≡ (command "LIST") → ⊥) → (t ≡ false → k ≡ (command "RUN") → ⊥) → at d p q r t ≡ at d' p q r t
      go true q r t a b e f = refl
      go false true r t a b e f = refl
      go false false true t a b e f = refl
      go false false false true a b e f = refl
      go false false false false a b e f = absurd (beside k l m (a refl) (b refl) (e refl) (f refl))

  unnamed : (k : ℕ) (s : List ℕ) → ((command "NEW") ≤ k → k ≤ (command "RUN") → ⊥) → choose command_cases d k s ≡ d s
  unnamed k s n = rw (ne_eqb k (command "NEW") (λ e. n (omega arith) (omega arith)), ne_eqb k (command "CLEAR") (λ e. n (omega arith) (omega arith)), ne_eqb k (command "LIST") (λ e. n (omega arith) (omega arith)), ne_eqb k (command "RUN") (λ e. n (omega arith) (omega arith)))

-- the list is cleared for it
module _ (ops : List ℕ) where
  alone-silent : (y : Typed) (s : List ℕ) → line_ops ops (some y) ≡ zeros ops → line_ops ops (alone y s) ≡ zeros ops
  alone-silent y s h = if-split (λ (o : Option Typed). line_ops ops o ≡ zeros ops) (all is_space s) (λ _. h) (λ _. refl)

  list-silent : (f : Found ℕ) (s : List ℕ) → line_ops ops (or_else f (λ n. alone (list n)) (alone (list 0)) s) ≡ zeros ops
  list-silent nothing s = alone-silent (list 0) s refl
  list-silent (found n t) s = alone-silent (list n) t refl

  pub command-silent : (k : ℕ) (s : List ℕ) → line_ops ops (choose command_cases unread k s) ≡ zeros ops
  command-silent k s =
      let P : (List ℕ → Option Typed) → Type 0 = λ g. line_ops ops (g s) ≡ zeros ops in
      if-split P (eqb k (command "NEW")) (λ _. alone-silent new s refl)
      (λ _. if-split P (eqb k (command "CLEAR")) (λ _. alone-silent clear s refl)
      (λ _. if-split P (eqb k (command "LIST")) (λ _. list-silent (a_decimal s) s) (λ _. if-split P (eqb k (command "RUN")) (λ _. alone-silent run s refl) (λ _. refl))))

  store-silent : (n : ℕ) (s : List ℕ) (o : Option (List Member)) → line_ops ops (storing n s o) ≡ zeros ops
  store-silent n s none = refl
  store-silent n s (some ms) = refl

  pub numbered-silent : (n : ℕ) (s : List ℕ) → line_ops ops (numbered n s) ≡ zeros ops
  numbered-silent n s = go (all is_space s)
    where
      go : (b : Bool) → line_ops ops (elim b [ true ↦ some (delete n) | false ↦ storing n s (reading s) ]) ≡ zeros ops
      go true = refl
      go false = store-silent n s (reading s)

-- No number
no_sign : (text : List ℕ) (w : Word) → ((k : ℕ) (c : Cursor) → w ≡ Sign k c → ⊥) → on_step (found_step text w) sign_of ≡ nothing
no_sign text (Variable v c) n = refl
no_sign text (Decimal v c) n = refl
no_sign text (Hex v c) n = refl
no_sign text (Text i j c) n = refl
no_sign text (Sign k c) n = absurd (n k c refl)
no_sign text End n = refl
no_sign text (Wrong c) n = refl

module _ (text : List ℕ) (w : Word) (h : WordIs commands text 0 w) where
  command-step : {f : Found ℕ} → on_step (found_step text w) sign_of ≡ f → unnumbered text ≡ or_else f (choose command_cases (λ t. alone_statement text)) alone_statement text
  command-step e = ap (λ (f : Found ℕ). or_else f (choose command_cases (λ t. alone_statement text)) alone_statement text) (ap (λ (s : FrontWord). on_step s sign_of) (sym h.same) ∙ e)

  pub unnumbered-other : (ks : List ℕ) → (OneOf ks 4 → ⊥) → OneOf ks (tag_of the_type w) → unnumbered text ≡ alone_statement text
  unnumbered-other ks n k = command-step (no_sign text w (λ j c e. n (subst (λ (q : Word). OneOf ks (tag_of the_type q)) e k)))

  module _ {k : ℕ} {c : Cursor} (e : w ≡ Sign k c) where
    pub typed-command : is_command k ≡ true → typed text ≡ choose command_cases unread k (drop c.at text)
    typed-command b =
        let l = leb-true (command "NEW") k (and_left (leb (command "NEW") k) (leb k (command "RUN")) b) in
        let m = leb-true k (command "RUN") (and_right (leb (command "NEW") k) (leb k (command "RUN")) b) in
        let s = word_sound commands text (drop c.at text) (sign k) (sym h.same ∙ ap (found_step text) e) in
        command-typed s ∙ named (λ t. alone_statement text) unread k (drop c.at text) l m

    pub unnumbered-sign : is_command k ≡ false → unnumbered text ≡ alone_statement text
    unnumbered-sign b = command-step (ap (λ (q : Word). on_step (found_step text q) sign_of) e) ∙ unnamed (λ t. alone_statement text) k (drop c.at text) (λ l m. beyond k l m b)

-- With a number
pub numbered-blank : (m n : ℕ) (s : List ℕ) → all is_space s ≡ true → line.Delete (record { 0 = n }) ≡ kind_of m (numbered n s)
numbered-blank m n s e = ap (λ (b : Bool). kind_of m (elim b [ true ↦ some (delete n) | false ↦ storing n s (reading s) ])) (sym e)

module _ (m n : ℕ) (s : List ℕ) (e : all is_space s ≡ false) where
  storing-of : kind_of m (storing n s (reading s)) ≡ kind_of m (numbered n s)
  storing-of = ap (λ (b : Bool). kind_of m (elim b [ true ↦ some (delete n) | false ↦ storing n s (reading s) ])) (sym e)

  stored : (o : Option (List Member)) → Done tt ≡ list_of o → line.Store (record { 0 = n }) (record { at = m - length s }) ≡ kind_of m (storing n s o)
  stored none d = let z : ◌≡◌ {A = ℕ} 0 1 = cc in absurd (omega arith)
  stored (some ms) d = refl

  pub numbered-reads : {at : ℕ} → at ≡ m - length s → Done tt ≡ list_of (reading s) → line.Store (record { 0 = n }) (record { at = at }) ≡ kind_of m (numbered n s)
  numbered-reads a d = ap (λ (p : ℕ). line.Store (record { 0 = n }) (record { at = p })) a ∙ stored (reading s) d ∙ storing-of

  unstored : (o : Option (List Member)) → (Err unread.NoReading) ≡ list_of o → line.NoReading ≡ kind_of m (storing n s o)
  unstored none d = refl
  unstored (some ms) d = let z : ◌≡◌ {A = ℕ} 0 1 = cc in absurd (omega arith)

  pub numbered-none : (Err unread.NoReading) ≡ list_of (reading s) → line.NoReading ≡ kind_of m (numbered n s)
  numbered-none d = unstored (reading s) d ∙ storing-of

-- A line that is no command
module _ (s : List ℕ) where
  by-blank : {b : Bool} → all is_space s ≡ b → plain s ≡ elim b [ true ↦ some blank | false ↦ or_else (a_decimal s) numbered alone_statement s ]
  by-blank e = ap (λ (b : Bool). elim b [ true ↦ some blank | false ↦ or_else (a_decimal s) numbered alone_statement s ]) e

  pub plain-blank : all is_space s ≡ true → plain s ≡ some blank
  plain-blank = by-blank

  pub plain-number : {t : List ℕ} {n : ℕ} → all is_space s ≡ false → a_decimal s ≡ found n t → plain s ≡ numbered n t
  plain-number b e = by-blank b ∙ ap (λ (f : Found ℕ). or_else f numbered alone_statement s) e

  pub plain-none : all is_space s ≡ false → a_decimal s ≡ nothing → plain s ≡ alone_statement s
  plain-none b e = by-blank b ∙ ap (λ (f : Found ℕ). or_else f numbered alone_statement s) e

  -- it is one where what has no number is no command
  pub typed-plain : unnumbered s ≡ alone_statement s → typed s ≡ plain s
  typed-plain u = go (all is_space s) refl
    where
      other : (f : Found ℕ) → or_else f numbered unnumbered s ≡ or_else f numbered alone_statement s
      other nothing = u
      other (found n t) = refl

      go : (b : Bool) → all is_space s ≡ b → typed s ≡ plain s
      go true e = typed-blank s e ∙ sym (by-blank e)
      go false e = typed-other s e ∙ other (a_decimal s) ∙ sym (by-blank e)

-- so it is where the first letters are no command's: what stands for a command there is a word of the keywords' rule too
same_sign : {s t : List ℕ} {k : ℕ} → may_command (past is_space s) ≡ false → C s (sign k) t → W s (sign k) t
same_sign f c = go c f where
  go : {s t : List ℕ} {w : Token} → C s w t → may_command (past is_space s) ≡ false → W s w t
  go (spaced c) f = spaced (go c f)
  go (keyword {c} {d} {k} {cs} {s} r) f = absurd (false≢true (sym f ∙ front-stands (c ∷ d ∷ cs) s k r.spelled))
  go (letter r) f = letter r
  go (decimal_digits r l) f = decimal_digits r l
  go (hex_digits r) f = hex_digits r
  go (quoted a) f = quoted a
  go (pair h) f = pair h
  go (symbol h n) f = symbol h n

pub unnumbered-front : (s : List ℕ) → may_command (past is_space s) ≡ false → unnumbered s ≡ alone_statement s
unnumbered-front s f = go (it (command-same s)) refl
  where
    go : {g : Found ℕ} → Ok (λ k t. C s (sign k) t) g → on_step (step_in commands s) sign_of ≡ g → unnumbered s ≡ alone_statement s
    go nil e = ap (λ (g : Found ℕ). or_else g (choose command_cases (λ t. alone_statement s)) alone_statement s) e
    go (one c) e = uncommanded (same_sign f c)
