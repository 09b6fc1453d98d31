-- The member that is next: what is fetched is what the program has there, and running its operations is the step. Assumes nothing.
use Rattle.std.specs.Prelude.{if◌then◌else◌}
use Rattle.std.specs.Prelude.{Result, Ok, Err, is_ok}
use Rattle.reader.specs.declared.Unread.{Unread}
use Rattle.reader.specs.declared.Unread.TheVariants as unread
use Prim.Native.Nat.{ℕ, ◌+◌, ◌-◌, ◌≤◌}
use mathlib.Core.Bool.{true, false}
use mathlib.Core.List.{List, [], ◌∷◌}
use mathlib.Core.Option.{none, some}
use mathlib.Core.Path.{◌≡◌, refl, ap, ◌∙◌}
use native.Mathlib.Omega.{arith}
use borrow.Author.Tests.{le-leb}
use lib.ListN.{length, take}
use Rattle.nibl.specs.Tree.{Member}
use Rattle.nibl.specs.found.Read.{found, member}
use Rattle.nibl.specs.Meaning.{World, Env, Done, exec}
use Rattle.nibl.specs.Runs.{Standing, line_from, text_from, fetch_member, fetch, env_at}
use Rattle.nibl.specs.Runs as nibl
use Rattle.page.specs.Standing.{Readable}
use Rattle.reader.specs.Code.{compile}
use Rattle.reader.specs.Answers.{has_room, member_of, member_ops}
use Rattle.line.proofs.Codes.{written-front}
use Rattle.line.proofs.Lists.{First, first, no-first, left-fits}
use Rattle.line.proofs.Short.{member-short}
use Rattle.operation.specs.Operations.{run_ops}
use Rattle.operation.proofs.Compiles.{compiled}
use Rattle.operation.proofs.Readings.{member-fine}
use Rattle.run.specs.StepEnds.{done_end, step_of}
use Rattle.run.specs.Fetching.{Fetch, past, fetched, in_operations, fetch_of, TextRoom}

-- of the text that begins at a, as the readers were lent it
module _ (page ops text : List ℕ) (a : ℕ) (same : text ≡ line_from page a) (within : TextRoom page a ops) (small : length page ≤ 65535) where
  room : has_room text ops ≡ true
  room =
      let n = ap length same in
      let i = within.inside in
      let r = within.room in
      rw (le-leb (length text) (length ops) (omega arith), le-leb (length text) 65535 (omega arith)) refl

  module _ (r : Result (ℕ × ℕ) Unread) (answered : r ≡ (if has_room text ops then member_of (member text) else (Err unread.NoRoom))) where
    -- without a member there is nothing to fetch
    pub no_member : is_ok r ≡ false → past ≡ in_operations (fetch_member page a (member (line_from page a)))
    no_member k = rw (← same, no-first text ops r room answered k) refl

    pub one-member : {n left : ℕ} → r ≡ Ok (n, left) → First (line_from page a) n left
    one-member h = rw same at (first text ops r room answered h)

  module _ {n left : ℕ} (f : First (line_from page a) n left) where
    -- it ends within the text, and has no more operations than bytes
    pub member-ends : left ≤ length text
    member-ends = let n = ap length same in let l = left-fits f in omega arith

    pub member-room : n ≤ length ops
    member-room =
        let s = member-short (line_from page a) f.rest f.one f.reads in
        let c = f.count in
        let r = within.room in
        omega arith

    its-operations : (after : List ℕ) → after ≡ (if has_room text ops then member_ops ops (member text) else ops) → take n after ≡ compile f.one.statement
    its-operations after h =
        let w : after ≡ member_ops ops (member (line_from page a)) = rw (← same) (h ∙ rw room refl) in
        let v : after ≡ member_ops ops (found f.one f.rest) = w ∙ ap (member_ops ops) f.reads in
        ap (take n) v ∙ written-front ops (compile f.one.statement) n f.count member-room

    pub member-fetched : (after : List ℕ) → after ≡ (if has_room text ops then member_ops ops (member text) else ops)
        → fetched (take n after) (a + length text - left) (a + length text) ≡ in_operations (fetch_member page a (member (line_from page a)))
    member-fetched after h =
        let l = ap length same in
        let i = f.ends in
        let k = left-fits f in
        let m : Member = f.one in
        let z : a + length text - left ≡ a + (length (line_from page a) - m.left) = omega arith in
        let y : a + length text ≡ a + length (line_from page a) = omega arith in
        rw (z, y, its-operations after h, f.reads) refl

-- by where its text begins
pub fetch-none : (page : List ℕ) (q : ℕ) → text_from page q ≡ none → past ≡ fetch_of page q
unfolding fetch fetch_of
fetch-none page q h = rw h refl

pub fetch-some : (page : List ℕ) (q a : ℕ) → text_from page q ≡ some a → fetch_of page q ≡ in_operations (fetch_member page a (member (line_from page a)))
unfolding fetch fetch_of
fetch-some page q a h = rw h refl

-- The member that was fetched, and that there is none only past the last line
pub record NextMember (page : List ℕ) (q : ℕ) (ops : List ℕ) (p cr : ℕ) : Type 0 where
  pub it : Standing
  pub fetches : fetch page q ≡ nibl.here it
  pub operations : ops ≡ compile it.statement
  pub place : p ≡ it.place
  pub end : cr ≡ it.cr

abbrev ops_in : Fetch → List ℕ
ops_in past = []
ops_in (fetched ops p cr) = ops

abbrev place_in : Fetch → ℕ
place_in past = 0
place_in (fetched ops p cr) = p

abbrev end_in : Fetch → ℕ
end_in past = 0
end_in (fetched ops p cr) = cr

module _ (page : List ℕ) (q : ℕ) where
  pub fetch-found : {ops : List ℕ} {p cr : ℕ} → fetched ops p cr ≡ fetch_of page q → NextMember page q ops p cr
  unfolding fetch_of
  fetch-found {ops} {p} {cr} e = by (fetch page q) refl e where
    by : (f : nibl.Fetched) → fetch page q ≡ f → fetched ops p cr ≡ in_operations f → NextMember page q ops p cr
    by nibl.past h g = let z : ◌≡◌ {A = ℕ} 0 1 = cc in absurd (omega arith)
    by (nibl.unread a) h g = let z : ◌≡◌ {A = ℕ} 0 1 = cc in absurd (omega arith)
    by (nibl.here x) h g = record { it = x; fetches = h; operations = ap ops_in g; place = ap place_in g; end = ap end_in g }

  pub fetch-past : past ≡ fetch_of page q → ((a : ℕ) → fetch page q ≡ nibl.unread a → ⊥) → fetch page q ≡ nibl.past
  unfolding fetch_of
  fetch-past e reads = by (fetch page q) refl e where
    by : (f : nibl.Fetched) → fetch page q ≡ f → past ≡ in_operations f → fetch page q ≡ nibl.past
    by nibl.past h g = h
    by (nibl.unread a) h g = absurd (reads a h)
    by (nibl.here x) h g = let z : ◌≡◌ {A = ℕ} 0 1 = cc in absurd (omega arith)

-- the step
pub member-steps : (e : Env) (w : World) (d : Done) {q : ℕ} {ops : List ℕ} {p cr : ℕ} (n : NextMember e.page q ops p cr) → Readable e.page n.it
    → d ≡ run_ops (env_at e p) ops w [] → done_end d p cr ≡ step_of e n.it w
unfolding step_of
member-steps e w d n r g =
    let x : Standing = n.it in
    let c : run_ops (env_at e x.place) (compile x.statement) w [] ≡ exec (env_at e x.place) x.statement w
    = rw r.statement (compiled (env_at e x.place) r.first.statement w (member-fine r.text r.rest r.first r.reads)) in
    let y : d ≡ exec (env_at e x.place) x.statement w = g ∙ rw (n.operations, n.place) c in
    rw (n.place, n.end, y) refl
