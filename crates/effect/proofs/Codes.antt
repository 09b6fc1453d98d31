-- What an operation of each code leaves, by the answer that its function gave. Assumes nothing.
use Rattle.std.specs.Prelude.{if◌then◌else◌}
use Rattle.std.specs.Prelude.{Option, Result}
use Rattle.nibl.specs.declared.stop.Stop.{Stop}
use Prim.Native.Nat.{ℕ, ◌+◌, ◌%◌, ◌≤◌}
use mathlib.Core.Path.{◌≡◌, refl, sym, ap, ◌∙◌}
use mathlib.Core.List.{List, [], ◌∷◌, ◌++◌}
use lib.Dec.{leb, eqb}
use lib.ListN.{length, set}
use borrow.Author.Tests.{ne_eqb}
use Rattle.nibl.specs.Values.{printed}
use Rattle.nibl.specs.Page.{find}
use Rattle.nibl.specs.Meaning.{World, Env, on, skip, stop, Done, done, bind, string_at, store_at, asked, gosub_to, do_here, for_here}
use Rattle.nibl.specs.declared.Place.{Place}
use Rattle.nibl.specs.declared.PlaceStack.{PlaceStack}
use Rattle.nibl.specs.declared.ForStack.{ForStack}
use Rattle.nibl.specs.declared.access.Sight.{Sight}
use Rattle.page.specs.Walk.{reached}
use Rattle.value.specs.Writes.{Writes}
use Rattle.world.specs.Stores.{store_gave, store_leaves}
use Rattle.world.specs.declared.jump.Way.{Way}
use Rattle.world.specs.declared.jump.Way.TheVariants as way
use Rattle.world.specs.declared.jump.Turn.{Turn}
use Rattle.world.specs.Turns.{way_of, turned, turned_for, way_to, gosub_turn, return_turn, do_turn, until_turn, for_turn, next_turn, gosubs_in, dos_in, fors_in}
use Rattle.world.proofs.jump.Worlds.{goto-called, gosub-called, return-in, do-in, until-in, for-in, next-in}
use Rattle.world.proofs.input.Answers.{heard-in}
use Rattle.codes.specs.Codes.{code_set_variable, code_set_stat, code_set_byte, code_copy_string, code_goto, code_gosub, code_return, code_print_room, code_print_byte, code_print_string, code_print_number, code_print_end, code_if, code_do, code_until, code_for, code_next, code_input_string}
use Rattle.operation.specs.Operations.{effect_by}
use Rattle.nibl.specs.declared.Parts.{Parts}
use Rattle.effect.specs.declared.Did.{Did}
use Rattle.effect.specs.Worlds.{unsensing, env_with, world_with, did, did_in, stored_way, wrote_in, KeepsVars, put_stored, keep_text, keep_reply}
use Rattle.nibl.specs.Record.{place, with_flags_in, with_gosubs_in, with_dos_in, with_fors_in}
use Rattle.effect.proofs.Answers.{done-if, put_in, store_in}

-- an operation that changes the world does not see the sense byte
pub effect-any-sense : (lim : ℕ) (page input : List ℕ) (sight : Sight) (here : Place) (code arg x y z : ℕ) (w : World)
    → effect_by (env_with lim page input sight here) code arg x y z w ≡ effect_by (env_with lim page input (unsensing sight.access) here) code arg x y z w
unfolding effect_by gosub_to do_here for_here asked
effect-any-sense lim page input sight here code arg x y z w = refl

-- a number that is none of a list's, as the last arm of a match has it
abbrev pub Unlike : ℕ → List ℕ → Type 0
Unlike n [] = Unit {0}
Unlike n (m ∷ ms) = Unlike n ms × (n ≡ m → ⊥)

-- what an operation is given, besides its code
pub record Given : Type 0 where
  pub env : Env
  pub short : length env.page ≤ 65535
  pub arg : ℕ
  pub x : ℕ
  pub y : ℕ
  pub z : ℕ
  pub vars : List ℕ
  pub memory : List ℕ
  pub output : List ℕ
  pub parts : Parts

module _ (g : Given) where
  abbrev pub world : World
  world = world_with g.vars g.parts g.memory g.output

  abbrev code : ℕ → Done
  code n = effect_by g.env n g.arg g.x g.y g.z world

  -- what it leaves where it changes the parts alone
  abbrev alone : Did → Done
  alone d = did_in d g.vars g.memory g.output

  pub let-var : {vars : List ℕ} → vars ≡ set g.vars g.arg g.x → did_in (did way.On g.parts) vars g.memory g.output ≡ code code_set_variable
  unfolding effect_by
  let-var h = rw h

  pub let-stat : alone (did way.On (with_flags_in g.parts (g.x % 8))) ≡ code code_set_stat
  unfolding effect_by
  let-stat = refl

  pub let-byte : (k : Result (Unit {0}) Stop) {m : List ℕ} → store_gave k m ≡ store_leaves g.memory (store_at g.env.sight.access g.memory g.y (g.x % 256 ∷ []))
      → did_in (did (stored_way k) g.parts) g.vars m g.output ≡ code code_set_byte
  unfolding effect_by
  let-byte k h = store_in g.parts g.vars g.memory g.output k (store_at g.env.sight.access g.memory g.y (g.x % 256 ∷ [])) h

  pub let-copy : (k : Result (Unit {0}) Stop) {m : List ℕ}
      → store_gave k m ≡ store_leaves g.memory (bind (string_at g.env.sight.access g.memory g.x) (λ bs. store_at g.env.sight.access g.memory g.y (bs ++ (13 ∷ []))))
      → did_in (did (stored_way k) g.parts) g.vars m g.output ≡ code code_copy_string
  unfolding effect_by
  let-copy k h = store_in g.parts g.vars g.memory g.output k (bind (string_at g.env.sight.access g.memory g.x) (λ bs. store_at g.env.sight.access g.memory g.y (bs ++ (13 ∷ [])))) h

  pub goto : (r : Way) → way_of r ≡ way_to (reached (find g.env.page g.x)) → alone (did r g.parts) ≡ code code_goto
  unfolding effect_by
  goto r h = ap (λ n. done n world) h ∙ sym (goto-called world g.env.page g.x g.short)

  pub gosub : (t : Turn PlaceStack) → turned t ≡ gosub_turn (place g.env.here) g.parts.gosubs (reached (find g.env.page g.x))
      → alone (did t.way (with_gosubs_in g.parts t.stack)) ≡ code code_gosub
  unfolding effect_by
  gosub t h = ap (gosubs_in world) h ∙ sym (gosub-called g.env world g.env.page g.x g.short)

  pub return : (t : Turn PlaceStack) → turned t ≡ return_turn g.parts.gosubs → alone (did t.way (with_gosubs_in g.parts t.stack)) ≡ code code_return
  unfolding effect_by
  return t h = ap (gosubs_in world) h ∙ sym (return-in world)

  pub room : (r : Way) → way_of r ≡ (if leb (g.parts.outpos + g.arg) (length g.output) then on else stop 17) → alone (did r g.parts) ≡ code code_print_room
  unfolding effect_by
  room r h = ap (λ n. done n world) h ∙ done-if (leb (g.parts.outpos + g.arg) (length g.output)) on (stop 17) world

  pub put_byte : {r : (Option ℕ)} {o : List ℕ} → Writes g.output g.parts.outpos (g.arg % 256 ∷ []) r o → did_in (wrote_in g.parts r) g.vars g.memory o ≡ code code_print_byte
  unfolding effect_by
  put_byte {r} h = put_in g.parts g.vars g.memory g.output r h

  pub put-stored : {d : Did} {o : List ℕ} → KeepsVars g.parts g.memory g.output (put_stored g.env.sight.access g.x) d g.memory o → did_in d g.vars g.memory o ≡ code code_print_string
  unfolding effect_by
  put-stored h = h.done-in g.vars

  pub put-number : {r : (Option ℕ)} {o : List ℕ} → Writes g.output g.parts.outpos (printed g.x) r o → did_in (wrote_in g.parts r) g.vars g.memory o ≡ code code_print_number
  unfolding effect_by
  put-number {r} h = put_in g.parts g.vars g.memory g.output r h

  pub put-line : {r : (Option ℕ)} {o : List ℕ} → Writes g.output g.parts.outpos (13 ∷ 10 ∷ []) r o → did_in (wrote_in g.parts r) g.vars g.memory o ≡ code code_print_end
  unfolding effect_by
  put-line {r} h = put_in g.parts g.vars g.memory g.output r h

  pub if-then : (r : Way) → way_of r ≡ (if eqb g.x 0 then skip else on) → alone (did r g.parts) ≡ code code_if
  unfolding effect_by
  if-then r h = ap (λ n. done n world) h ∙ done-if (eqb g.x 0) skip on world

  pub do-here : (t : Turn PlaceStack) → turned t ≡ do_turn (place g.env.here) g.parts.dos → alone (did t.way (with_dos_in g.parts t.stack)) ≡ code code_do
  unfolding effect_by
  do-here t h = ap (dos_in world) h ∙ sym (do-in g.env world)

  pub until : (t : Turn PlaceStack) → turned t ≡ until_turn g.x g.parts.dos → alone (did t.way (with_dos_in g.parts t.stack)) ≡ code code_until
  unfolding effect_by
  until t h = ap (dos_in world) h ∙ sym (until-in world g.x)

  pub for : (t : Turn ForStack) {vars : List ℕ}
      → turned_for t vars ≡ for_turn (place g.env.here) g.parts.fors g.vars (g.arg % 256) g.z g.y g.x
      → did_in (did t.way (with_fors_in g.parts t.stack)) vars g.memory g.output ≡ code code_for
  unfolding effect_by
  for t h = ap (fors_in world) h ∙ sym (for-in g.env world (g.arg % 256) g.z g.y g.x)

  pub next : (t : Turn ForStack) {vars : List ℕ} → turned_for t vars ≡ next_turn g.parts.fors g.vars (g.arg % 256)
      → did_in (did t.way (with_fors_in g.parts t.stack)) vars g.memory g.output ≡ code code_next
  unfolding effect_by
  next t h = ap (fors_in world) h ∙ sym (next-in world (g.arg % 256))

  pub input-text : {d : Did} {m o : List ℕ} → KeepsVars g.parts g.memory g.output (keep_reply g.env.sight.access g.env.lim g.env.input g.x) d m o
      → did_in d g.vars m o ≡ code code_input_string
  unfolding effect_by
  input-text h = h.done-in g.vars ∙ sym (heard-in g.env world (keep_text g.env.sight.access g.x))

  -- any other code
  pub end : (n : ℕ) → Unlike n (code_input_string ∷ code_next ∷ code_for ∷ code_until ∷ code_do ∷ code_if ∷ code_print_end ∷ code_print_number ∷ code_print_string ∷ code_print_byte ∷ code_print_room ∷ code_return ∷ code_gosub ∷ code_goto ∷ code_copy_string ∷ code_set_byte ∷ code_set_stat ∷ code_set_variable ∷ []) → alone (did (way.Stop (record { 0 = 20 })) g.parts) ≡ code n
  unfolding effect_by
  end n ((((((((((((((((((t, a16), a17), a18), a21), a22), a23), a24), a25), a26), a27), a28), a29), a30), a31), a32), a33), a34), a37) =
      rw (
        ne_eqb n code_set_variable a16,
        ne_eqb n code_set_stat a17,
        ne_eqb n code_set_byte a18,
        ne_eqb n code_copy_string a21,
        ne_eqb n code_goto a22,
        ne_eqb n code_gosub a23,
        ne_eqb n code_return a24,
        ne_eqb n code_print_room a25,
        ne_eqb n code_print_byte a26,
        ne_eqb n code_print_string a27,
        ne_eqb n code_print_number a28,
        ne_eqb n code_print_end a29,
        ne_eqb n code_if a30,
        ne_eqb n code_do a31,
        ne_eqb n code_until a32,
        ne_eqb n code_for a33,
        ne_eqb n code_next a34,
        ne_eqb n code_input_string a37,
      )
