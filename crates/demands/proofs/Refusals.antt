-- Each refusal of a statement, with its number, exactly when document 01 says so. Assumes nothing.
use Prim.Native.Nat.{ℕ}
use mathlib.Core.Path.{◌≡◌, refl, sym, ◌∙◌}
use mathlib.Core.Bool.{true, false, true≢false}
use mathlib.Core.List.{List, [], ◌∷◌}
use mathlib.Core.Logic.{◌↔◌}
use native.Mathlib.Omega.{arith}
use Rattle.nibl.specs.Tree.{Expr, Item, Stmt, end}
use Rattle.nibl.specs.Values.{no}
use Rattle.nibl.specs.Page.{is_among}
use Rattle.nibl.specs.Meaning.{World, Env, stop, done, exec}
use Rattle.nibl.specs.declared.access.Access.{Access}
use Rattle.demands.specs.Whose.{ByteRefused, not_there, not_its_own, StoreRefused, outlying, not_all_own}
use Rattle.demands.specs.Valued.{FirstRefused, at_first, at_later, ItemBytes, no_string, no_address, no_number}
use Rattle.demands.specs.Work.{RefusesValue, of_statement, of_item, of_reply, RefusesMemory, byte_not_stored, text_not_stored, no_source, copy_not_stored, reply_not_stored, RefusedWith, by_value, by_memory, no_line_to_go, no_line_to_sub, full_of_gosubs, full_of_dos, full_of_fors, no_gosub, no_do, no_for, other_for, no_room_for_item, no_room_for_end, no_room_to_ask, no_reply, reply_too_long, reply_unread, at_end, Performs, refuses, returns_to_mark, Reaches, Works}
use Rattle.demands.specs.Refusals.{ComesTo, Unheard, over_long, not_in_form, NoReplyLeft, MissesLine, by_goto, by_gosub, ReturnsFromNothing, a_return, RepeatsNothing, an_until, FullStack, of_gosubs, of_dos, of_fors, NextOfNothing, none_to_count, NextOfAnother, another_counts, MemoryRefused, LacksMemory, NotItsOwn, in_value, in_memory, LacksOutput, for_item, for_end, for_question, Refusal}
use Rattle.demands.proofs.Valued.{value_numbers, byte-number, refused-number}
use Rattle.demands.proofs.Work.{works, works-one}

-- A value, and so an item, is refused with 13, 16 or 21 alone
abbrev ByValue : ℕ → Type 0
ByValue n = is_among value_numbers n ≡ true

first-number : {e : Env} {w : World} {as' : List Expr} {n : ℕ} → FirstRefused e w as' n → ByValue n
first-number {e} {w} (at_first h) = refused-number e w h
first-number (at_later h f) = first-number f

item-number : {e : Env} {w : World} {i : Item} {n : ℕ} → ItemBytes e w i (no n) → ByValue n
item-number (no_string h s) = byte-number s.refused
item-number {e} {w} (no_address h) = refused-number e w h
item-number {e} {w} (no_number h) = refused-number e w h

value-number : {e : Env} {w u : World} {q : Stmt} {n : ℕ} → RefusesValue e w n u q → ByValue n
value-number (of_statement h) = first-number h
value-number (of_item b m j) = item-number j
value-number {e} {u = u} (of_reply r s l m h) = refused-number e u h

-- and what is refused in memory with 16 or 21 alone
abbrev memory_numbers : List ℕ
memory_numbers = 16 ∷ 21 ∷ []

store-number : {x : Access} {memory p k n : ℕ} → StoreRefused x memory p k n → is_among memory_numbers n ≡ true
store-number (outlying h) = refl
store-number (not_all_own h f) = refl

source-number : {x : Access} {memory p n : ℕ} → ByteRefused x memory p n → is_among memory_numbers n ≡ true
source-number (not_there h) = refl
source-number (not_its_own h f) = refl

memory-number : {e : Env} {w u : World} {q : Stmt} {n : ℕ} → RefusesMemory e w n u q → is_among memory_numbers n ≡ true
memory-number (byte_not_stored h g l) = store-number l
memory-number (text_not_stored h l) = store-number l
memory-number (no_source h g s) = source-number s.refused
memory-number (copy_not_stored h g s l) = store-number l
memory-number (reply_not_stored h r s l) = store-number l

module _ (e : Env) (w : World) where
  -- the number is none of a value's, none of memory's
  no_value : {n : ℕ} {u : World} {q : Stmt} → is_among value_numbers n ≡ false → RefusesValue e w n u q → ⊥
  no_value h r = true≢false (sym (value-number r) ∙ h)

  no-memory : {n : ℕ} {u : World} {q : Stmt} → is_among memory_numbers n ≡ false → RefusesMemory e w n u q → ⊥
  no-memory h r = true≢false (sym (memory-number r) ∙ h)

  refusal-of : {s : Stmt} {n : ℕ} {u : World} → (n ≡ 0 → ⊥) → Works e s w (done (stop n) u) → Refusal e s w n u
  refusal-of {n = n} {u = u} z r = record { statement = r.statement; reached = r.reached; holds = by r.performed z } where
    by : {q : Stmt} {n : ℕ} {u : World} → Performs e w q (done (stop n) u) → (n ≡ 0 → ⊥) → RefusedWith e w q n u
    by (refuses h) z = h
    by (returns_to_mark t m) z = absurd (z refl)

  -- a statement stops with a number, but for RETURN's 0, exactly when a rule refuses it with that number
  pub refused-exactly : (s : Stmt) (n : ℕ) (u : World) → (n ≡ 0 → ⊥) → (exec e s w ≡ done (stop n) u) ↔ Refusal e s w n u
  refused-exactly s n u z =
      (λ h. refusal-of z (rw h at (works e s w)), λ r. works-one e w (record { statement = r.statement; reached = r.reached; performed = refuses r.holds }))

  -- one number's own sentence
  module _ (n : ℕ) (u : World) (z : n ≡ 0 → ⊥) (P : Stmt → Type 0) (f : (q : Stmt) → RefusedWith e w q n u → P q) (g : (q : Stmt) → P q → RefusedWith e w q n u) where
    own : (s : Stmt) → (exec e s w ≡ done (stop n) u) ↔ ComesTo e s w P
    own s = (
      λ h. let r = (refused-exactly s n u z).0 h in record { statement = r.statement; reached = r.reached; holds = f r.statement r.holds },
      λ r. (refused-exactly s n u z).1 (record { statement = r.statement; reached = r.reached; holds = g r.statement r.holds }),
    )

  -- "reply over-long or not in its form"
  pub six-exactly : (s : Stmt) (u : World) → (exec e s w ≡ done (stop 6) u) ↔ ComesTo e s w (Unheard e w u)
  six-exactly s u = own 6 u (λ h. omega arith) (Unheard e w u) (λ q. f) (λ q. g) s where
    f : {q : Stmt} {u : World} → RefusedWith e w q 6 u → Unheard e w u q
    f (by_value h) = absurd (no_value refl h)
    f (by_memory h) = absurd (no-memory refl h)
    f (reply_too_long a r h) = over_long a r h refl
    f (reply_unread r s h) = not_in_form r s h refl

    g : {q : Stmt} → Unheard e w u q → RefusedWith e w q 6 u
    g (over_long a r h i) = rw i (reply_too_long a r h)
    g (not_in_form r s h i) = rw i (reply_unread r s h)

  -- "no CR left in the input; no byte is taken"
  pub seven-exactly : (s : Stmt) (u : World) → (exec e s w ≡ done (stop 7) u) ↔ ComesTo e s w (NoReplyLeft e w u)
  seven-exactly s u = own 7 u (λ h. omega arith) (NoReplyLeft e w u) (λ q. f) (λ q. g) s where
    f : {q : Stmt} {u : World} → RefusedWith e w q 7 u → NoReplyLeft e w u q
    f (by_value h) = absurd (no_value refl h)
    f (by_memory h) = absurd (no-memory refl h)
    f (no_reply a h l) = record { asking = a; room = h; no_cr = l; leaves = refl }

    g : {q : Stmt} → NoReplyLeft e w u q → RefusedWith e w q 7 u
    g r = rw r.leaves (no_reply r.asking r.room r.no_cr)

  -- the numbers that leave all as it was
  module _ (n : ℕ) (z : n ≡ 0 → ⊥) (P : Stmt → Type 0) (f : (q : Stmt) (u : World) → RefusedWith e w q n u → P q × (u ≡ w)) (g : (q : Stmt) → P q → RefusedWith e w q n w) where
    still : (s : Stmt) (u : World) → (exec e s w ≡ done (stop n) u) ↔ (ComesTo e s w P × (u ≡ w))
    still s u = (
      λ h. let r = (refused-exactly s n u z).0 h in let i = f r.statement u r.holds in (record { statement = r.statement; reached = r.reached; holds = i.0 }, i.1),
      λ r. rw r.1 ((refused-exactly s n w z).1 (record { statement = r.0.statement; reached = r.0.reached; holds = g r.0.statement r.0.holds })),
    )

  -- "GOTO or GOSUB to a line not there"
  pub eight-exactly : (s : Stmt) (u : World) → (exec e s w ≡ done (stop 8) u) ↔ (ComesTo e s w (MissesLine e w) × (u ≡ w))
  eight-exactly = still 8 (λ h. omega arith) (MissesLine e w) (λ q u. f) (λ q. g) where
    f : {q : Stmt} {u : World} → RefusedWith e w q 8 u → MissesLine e w q × (u ≡ w)
    f (by_value h) = absurd (no_value refl h)
    f (by_memory h) = absurd (no-memory refl h)
    f (no_line_to_go h l) = (by_goto h l, refl)
    f (no_line_to_sub h l) = (by_gosub h l, refl)

    g : {q : Stmt} → MissesLine e w q → RefusedWith e w q 8 w
    g (by_goto h l) = no_line_to_go h l
    g (by_gosub h l) = no_line_to_sub h l

  -- "RETURN with its stack empty"
  pub nine-exactly : (s : Stmt) (u : World) → (exec e s w ≡ done (stop 9) u) ↔ (ComesTo e s w (ReturnsFromNothing w) × (u ≡ w))
  nine-exactly = still 9 (λ h. omega arith) (ReturnsFromNothing w) (λ q u. f) (λ q. g) where
    f : {q : Stmt} {u : World} → RefusedWith e w q 9 u → ReturnsFromNothing w q × (u ≡ w)
    f (by_value h) = absurd (no_value refl h)
    f (by_memory h) = absurd (no-memory refl h)
    f (no_gosub b) = (a_return b, refl)

    g : {q : Stmt} → ReturnsFromNothing w q → RefusedWith e w q 9 w
    g (a_return b) = no_gosub b

  -- "past 8 GOSUBs, 8 DOs or 4 FORs"
  pub ten-exactly : (s : Stmt) (u : World) → (exec e s w ≡ done (stop 10) u) ↔ (ComesTo e s w (FullStack e w) × (u ≡ w))
  ten-exactly = still 10 (λ h. omega arith) (FullStack e w) (λ q u. f) (λ q. g) where
    f : {q : Stmt} {u : World} → RefusedWith e w q 10 u → FullStack e w q × (u ≡ w)
    f (by_value h) = absurd (no_value refl h)
    f (by_memory h) = absurd (no-memory refl h)
    f (full_of_gosubs h l b) = (of_gosubs h l b, refl)
    f (full_of_dos b) = (of_dos b, refl)
    f (full_of_fors h i j b) = (of_fors h i j b, refl)

    g : {q : Stmt} → FullStack e w q → RefusedWith e w q 10 w
    g (of_gosubs h l b) = full_of_gosubs h l b
    g (of_dos b) = full_of_dos b
    g (of_fors h i j b) = full_of_fors h i j b

  -- "NEXT with no FOR"
  pub eleven-exactly : (s : Stmt) (u : World) → (exec e s w ≡ done (stop 11) u) ↔ (ComesTo e s w (NextOfNothing w) × (u ≡ w))
  eleven-exactly = still 11 (λ h. omega arith) (NextOfNothing w) (λ q u. f) (λ q. g) where
    f : {q : Stmt} {u : World} → RefusedWith e w q 11 u → NextOfNothing w q × (u ≡ w)
    f (by_value h) = absurd (no_value refl h)
    f (by_memory h) = absurd (no-memory refl h)
    f (no_for b) = (none_to_count b, refl)

    g : {q : Stmt} → NextOfNothing w q → RefusedWith e w q 11 w
    g (none_to_count b) = no_for b

  -- "NEXT .. with another variable"
  pub twelve-exactly : (s : Stmt) (u : World) → (exec e s w ≡ done (stop 12) u) ↔ (ComesTo e s w (NextOfAnother w) × (u ≡ w))
  twelve-exactly = still 12 (λ h. omega arith) (NextOfAnother w) (λ q u. f) (λ q. g) where
    f : {q : Stmt} {u : World} → RefusedWith e w q 12 u → NextOfAnother w q × (u ≡ w)
    f (by_value h) = absurd (no_value refl h)
    f (by_memory h) = absurd (no-memory refl h)
    f (other_for t n) = (another_counts t n, refl)

    g : {q : Stmt} → NextOfAnother w q → RefusedWith e w q 12 w
    g (another_counts t n) = other_for t n

  -- "division or MOD by 0": a value is refused so by these two alone
  pub thirteen-exactly : (s : Stmt) (u : World) → (exec e s w ≡ done (stop 13) u) ↔ ComesTo e s w (RefusesValue e w 13 u)
  thirteen-exactly s u = own 13 u (λ h. omega arith) (RefusesValue e w 13 u) (λ q. f) (λ q. g) s where
    f : {q : Stmt} {u : World} → RefusedWith e w q 13 u → RefusesValue e w 13 u q
    f (by_value h) = h
    f (by_memory h) = absurd (no-memory refl h)

    g : {q : Stmt} → RefusesValue e w 13 u q → RefusedWith e w q 13 u
    g h = by_value h

  -- "UNTIL with its stack empty"
  pub fifteen-exactly : (s : Stmt) (u : World) → (exec e s w ≡ done (stop 15) u) ↔ (ComesTo e s w (RepeatsNothing e w) × (u ≡ w))
  fifteen-exactly = still 15 (λ h. omega arith) (RepeatsNothing e w) (λ q u. f) (λ q. g) where
    f : {q : Stmt} {u : World} → RefusedWith e w q 15 u → RepeatsNothing e w q × (u ≡ w)
    f (by_value h) = absurd (no_value refl h)
    f (by_memory h) = absurd (no-memory refl h)
    f (no_do h b) = (an_until h b, refl)

    g : {q : Stmt} → RepeatsNothing e w q → RefusedWith e w q 15 w
    g (an_until h b) = no_do h b

  -- 16 and 21 stand beside each other
  memory-refused : {n : ℕ} {u : World} {q : Stmt} → MemoryRefused n e w u q → RefusedWith e w q n u
  memory-refused (in_value h) = by_value h
  memory-refused (in_memory h) = by_memory h

  -- "a memory byte needed is not there, or no CR found"
  pub sixteen-exactly : (s : Stmt) (u : World) → (exec e s w ≡ done (stop 16) u) ↔ ComesTo e s w (LacksMemory e w u)
  sixteen-exactly s u = own 16 u (λ h. omega arith) (LacksMemory e w u) (λ q. f) (λ q. memory-refused) s where
    f : {q : Stmt} {u : World} → RefusedWith e w q 16 u → LacksMemory e w u q
    f (by_value h) = in_value h
    f (by_memory h) = in_memory h

  -- "a byte not this box's to read or write"
  pub twenty-one-exactly : (s : Stmt) (u : World) → (exec e s w ≡ done (stop 21) u) ↔ ComesTo e s w (NotItsOwn e w u)
  twenty-one-exactly s u = own 21 u (λ h. omega arith) (NotItsOwn e w u) (λ q. f) (λ q. memory-refused) s where
    f : {q : Stmt} {u : World} → RefusedWith e w q 21 u → NotItsOwn e w u q
    f (by_value h) = in_value h
    f (by_memory h) = in_memory h

  -- "an output item does not fit whole"
  pub seventeen-exactly : (s : Stmt) (u : World) → (exec e s w ≡ done (stop 17) u) ↔ ComesTo e s w (LacksOutput e w u)
  seventeen-exactly s u = own 17 u (λ h. omega arith) (LacksOutput e w u) (λ q. f) (λ q. g) s where
    f : {q : Stmt} {u : World} → RefusedWith e w q 17 u → LacksOutput e w u q
    f (by_value h) = absurd (no_value refl h)
    f (by_memory h) = absurd (no-memory refl h)
    f (no_room_for_item b m j r) = for_item b m j r
    f (no_room_for_end m r) = for_end m r
    f (no_room_to_ask a r) = for_question a r refl

    g : {q : Stmt} → LacksOutput e w u q → RefusedWith e w q 17 u
    g (for_item b m j r) = no_room_for_item b m j r
    g (for_end m r) = no_room_for_end m r
    g (for_question a r i) = rw i (no_room_to_ask a r)

  -- END
  pub twenty-exactly : (s : Stmt) (u : World) → (exec e s w ≡ done (stop 20) u) ↔ (Reaches e w s end × (u ≡ w))
  twenty-exactly s u = (
    λ h. let r = (refused-exactly s 20 u (λ i. omega arith)).0 h in by r.holds r.reached,
    λ r. rw r.1 ((refused-exactly s 20 w (λ i. omega arith)).1 (record { statement = end; reached = r.0; holds = at_end })),
  )
    where
      by : {q : Stmt} {u : World} → RefusedWith e w q 20 u → Reaches e w s q → Reaches e w s end × (u ≡ w)
      by (by_value h) r = absurd (no_value refl h)
      by (by_memory h) r = absurd (no-memory refl h)
      by at_end r = (r, refl)
