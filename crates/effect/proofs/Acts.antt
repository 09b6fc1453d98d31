-- What an operation that acts at once, or a turn, leaves in the world is what it does there. Assumes nothing.
use Prim.Native.Nat.{ℕ, ◌%◌, ◌≤◌}
use mathlib.Core.Path.{◌≡◌, refl, sym, ap, ◌∙◌}
use mathlib.Core.Bool.{false}
use mathlib.Core.Logic.{◌⊎◌, inl, inr}
use mathlib.Core.List.{List}
use mathlib.Core.Option.{Option, none, some}
use native.Mathlib.Omega.{arith}
use borrow.Author.Tests.{eqb-true}
use lib.Dec.{eqb}
use Rattle.nibl.specs.Meaning.{Next, on, skip, Done, done}
use Rattle.nibl.specs.Record.{place}
use Rattle.nibl.specs.declared.Place.{Place}
use Rattle.nibl.specs.declared.PlaceStack.{PlaceStack}
use Rattle.nibl.specs.declared.ForStack.{ForStack}
use Rattle.page.proofs.Walk.{by_cases}
use Rattle.world.specs.Turns.{turned_for_to, next_turn, backed_to, next_back, until_turn, until_back, gosubs_in, dos_in, fors_in}
use Rattle.world.proofs.jump.Worlds.{goto-called, gosub-called, return-in, do-in, until-in, for-in, next-in, back-turns, back_none, until-turns}
use Rattle.codes.specs.Codes.{effects, code_set_variable, code_if, code_goto, code_gosub, code_return, code_do, code_until, code_for, code_next}
use Rattle.operation.specs.Operations.{effect_by, is_last}
use Rattle.effect.specs.Worlds.{world_with}
use Rattle.effect.specs.Acts.{Acted, acted_to, back_to, act_by, call_turn, loop_turn, count_turn}
use Rattle.effect.proofs.Answers.{done-if}
use Rattle.effect.proofs.Codes.{Given, world}

-- an answer that is none is not one that ends
never : {n : Next} {us us' : List ℕ} → acted_to (some n) us ≡ acted_to none us' → ⊥
never e = let f : ◌≡◌ {A = Option Next} (some _) none = ap (λ (a : Acted). a.next) e in let z : ◌≡◌ {A = ℕ} 0 1 = cc in omega arith

-- NEXT, by where it goes back to
next-back : (fors : ForStack) (vars : List ℕ) (v : ℕ) {n : Next} {us : List ℕ} (o : Option ℕ) (u : List ℕ) → backed_to o u ≡ next_back fors vars v
    → acted_to (some n) us ≡ acted_to (back_to o) u → next_turn fors vars v ≡ turned_for_to n fors us
next-back fors vars v none u b e = absurd (never e)
next-back fors vars v (some q) u b e =
    back-turns fors vars v b ∙ ap (λ (a : Acted). turned_for_to (next_of a.next) fors a.vars) (sym e)
  where
    next_of : Option Next → Next
    next_of none = on
    next_of (some n) = n

module _ (g : Given) where
  abbrev left : Acted → Done
  left a = done (elim a.next [ none ↦ on | some n ↦ n ]) (world_with a.vars g.parts g.memory g.output)

  abbrev does : ℕ → Done
  does code = effect_by g.env code g.arg g.x g.y g.z (world g)

  abbrev acts : ℕ → Acted
  acts code = act_by g.env.page g.parts.dos g.parts.fors code g.arg g.x g.vars

  set_does : does code_set_variable ≡ left (acts code_set_variable)
  unfolding effect_by act_by
  set_does = refl

  if-does : does code_if ≡ left (acts code_if)
  unfolding effect_by act_by
  if-does = sym (done-if (eqb g.x 0) skip on (world g))

  goto-does : does code_goto ≡ left (acts code_goto)
  unfolding effect_by act_by
  goto-does = goto-called (world g) g.env.page g.x g.short

  next-does : {n : Next} {us : List ℕ} → acted_to (some n) us ≡ acts code_next → does code_next ≡ left (acted_to (some n) us)
  unfolding effect_by act_by
  next-does e =
      let b = next_back g.parts.fors g.vars (g.arg % 256) in
      next-in (world g) (g.arg % 256) ∙ ap (fors_in (world g)) (next-back g.parts.fors g.vars (g.arg % 256) b.to b.vars refl e)

  until-does : {n : Next} {us : List ℕ} → acted_to (some n) us ≡ acts code_until → does code_until ≡ left (acted_to (some n) us)
  unfolding effect_by act_by
  until-does {n} {us} e = until-in (world g) g.x ∙ by (until_back g.x g.parts.dos) refl e where
    by : (o : Option ℕ) → o ≡ until_back g.x g.parts.dos → acted_to (some n) us ≡ acted_to (back_to o) g.vars
        → dos_in (world g) (until_turn g.x g.parts.dos) ≡ left (acted_to (some n) us)
    by none b e = absurd (never e)
    by (some q) b e = ap (dos_in (world g)) (until-turns g.x g.parts.dos b) ∙ ap left (sym e)

  act-other : (code : ℕ) → eqb code code_set_variable ≡ false → eqb code code_if ≡ false → eqb code code_goto ≡ false → eqb code code_until ≡ false → eqb code code_next ≡ false → acts code ≡ acted_to none g.vars
  unfolding act_by
  act-other code a b c u d = rw (a, b, c, u, d) refl

  pub act-does : (code : ℕ) {n : Next} {us : List ℕ} → acted_to (some n) us ≡ acts code
      → (does code ≡ done n (world_with us g.parts g.memory g.output)) × (effects ≤ code) × (is_last code ≡ false)
  act-does code e =
      by_cases (eqb code code_set_variable) (λ h. rw (eqb-true code code_set_variable h) (set_does ∙ ap left (sym (rw (eqb-true code code_set_variable h) at e)), omega arith, refl))
      (λ a. by_cases (eqb code code_if) (λ h. rw (eqb-true code code_if h) (if-does ∙ ap left (sym (rw (eqb-true code code_if h) at e)), omega arith, refl))
      (λ b. by_cases (eqb code code_goto) (λ h. rw (eqb-true code code_goto h) (goto-does ∙ ap left (sym (rw (eqb-true code code_goto h) at e)), omega arith, refl))
      (λ c. by_cases (eqb code code_until) (λ h. rw (eqb-true code code_until h) (until-does (rw (eqb-true code code_until h) at e), omega arith, refl))
      (λ u. by_cases (eqb code code_next) (λ h. rw (eqb-true code code_next h) (next-does (rw (eqb-true code code_next h) at e), omega arith, refl))
      (λ d. absurd (never (e ∙ act-other code a b c u d)))))))

-- one that is not done leaves the variables
back-not : (fors : ForStack) (vars : List ℕ) (v : ℕ) {us : List ℕ} (o : Option ℕ) (u : List ℕ) → backed_to o u ≡ next_back fors vars v
    → acted_to none us ≡ acted_to (back_to o) u → us ≡ vars
back-not fors vars v none u b e = ap (λ (a : Acted). a.vars) e ∙ back_none fors vars v b
back-not fors vars v (some q) u b e = absurd (never (sym e))

module _ (page : List ℕ) (dos : PlaceStack) (fors : ForStack) (arg x : ℕ) (vars : List ℕ) where
  pub act-not : (code : ℕ) {us : List ℕ} → acted_to none us ≡ act_by page dos fors code arg x vars → us ≡ vars
  unfolding act_by
  act-not code e =
      by_cases (eqb code code_set_variable) (λ h. absurd (never (sym (rw h at e))))
      (λ a. by_cases (eqb code code_if) (λ h. absurd (never (sym (rw (a, h) at e))))
      (λ b. by_cases (eqb code code_goto) (λ h. absurd (never (sym (rw (a, b, h) at e))))
      (λ c. by_cases (eqb code code_until) (λ h. ap (λ (a : Acted). a.vars) (rw (a, b, c, h) at e))
      (λ u. by_cases (eqb code code_next)
      (λ h. let k = next_back fors vars (arg % 256) in back-not fors vars (arg % 256) k.to k.vars refl (rw (a, b, c, u, h) at e))
      (λ d. ap (λ (a : Acted). a.vars) (rw (a, b, c, u, d) at e))))))

-- A turn does what its operation does, by the code
module _ (g : Given) where
  abbrev here : Place
  here = place g.env.here

  abbrev call : ℕ → Done
  call code = gosubs_in (world g) (call_turn g.env.page here g.parts.gosubs code g.x)

  abbrev turn : ℕ → Done
  turn code = dos_in (world g) (loop_turn here g.parts.dos code g.x)

  abbrev count : ℕ → Done
  count code = fors_in (world g) (count_turn here g.parts.fors g.vars code g.arg g.x g.y g.z)

  -- it is an operation that changes the world, and takes no rest of the list
  abbrev Does : ℕ → Done → Type 0
  Does code d = (does g code ≡ d) × (effects ≤ code) × (is_last code ≡ false)

  gosub-does : Does code_gosub (call code_gosub)
  unfolding effect_by call_turn
  gosub-does = (gosub-called g.env (world g) g.env.page g.x g.short, omega arith, refl)

  return-does : Does code_return (call code_return)
  unfolding effect_by call_turn
  return-does = (return-in (world g), omega arith, refl)

  pub call-does : {code : ℕ} → (code ≡ code_gosub) ⊎ (code ≡ code_return) → Does code (call code)
  call-does (inl h) = rw h gosub-does
  call-does (inr h) = rw h return-does

  do-does : Does code_do (turn code_do)
  unfolding effect_by loop_turn
  do-does = (do-in g.env (world g), omega arith, refl)

  until-turn : Does code_until (turn code_until)
  unfolding effect_by loop_turn
  until-turn = (until-in (world g) g.x, omega arith, refl)

  pub loop-does : {code : ℕ} → (code ≡ code_do) ⊎ (code ≡ code_until) → Does code (turn code)
  loop-does (inl h) = rw h do-does
  loop-does (inr h) = rw h until-turn

  for-does : Does code_for (count code_for)
  unfolding effect_by count_turn
  for-does = (for-in g.env (world g) (g.arg % 256) g.z g.y g.x, omega arith, refl)

  next-turn : Does code_next (count code_next)
  unfolding effect_by count_turn
  next-turn = (next-in (world g) (g.arg % 256), omega arith, refl)

  pub count-does : {code : ℕ} → (code ≡ code_for) ⊎ (code ≡ code_next) → Does code (count code)
  count-does (inl h) = rw h for-does
  count-does (inr h) = rw h next-turn
