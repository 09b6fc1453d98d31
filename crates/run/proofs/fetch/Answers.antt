-- `fetch` meets its contract: by where the next text begins, and by its first member. Assumes nothing.
use Prim.Native.Nat.{ℕ, ◌+◌, ◌≤◌, ◌<◌}
use mathlib.Core.List.{List}
use mathlib.Core.Option.{some}
use mathlib.Core.Path.{◌≡◌, sym, ap, ◌∙◌}
use native.Mathlib.Omega.{arith}
use Rattle.std.specs.Prelude.{is_some}
use lib.ListN.{length}
use Rattle.nibl.specs.Runs.{line_from, text_from}
use Rattle.nibl.specs.Record.{position_of}
use Rattle.page.specs.Walk.{begin_of}
use Rattle.line.proofs.Lists.{First, was-ok}
use Rattle.run.specs.Fetching.{FetchRoom}
use Rattle.run.proofs.Members.{no_member, one-member, member-ends, member-room, member-fetched, fetch-none, fetch-some}
use Rattle.run.proofs.fetch.Goals.{In_ok-count}
use Rattle.run.proofs.fetch.Goals as goal

-- every position of the text is one of 16 bits
inside : (page ops text : List ℕ) (q a : ℕ) → FetchRoom page q ops → text_from page q ≡ some a → text ≡ line_from page a → a + length text < 65535
inside page ops text q a r t same =
    let n = ap length same in
    let i = (r.texts a t).inside in
    let p = r.places in
    omega arith

-- where the text begins, and its first member
module _ (k : In_ok-count) where
  there : text_from k.args.page.now (position_of k.args.from) ≡ some k.in_ok-a.a
  there = sym k.text_from.ensures ∙ ap begin_of k.in_ok-a.was

  one : First (line_from k.args.page.now k.in_ok-a.a) k.in_ok-count.count k.in_ok-count.left
  one = one-member k.args.page.now k.args.ops.now k.running-text.result.now k.in_ok-a.a k.running-text.ensures (k.requires.texts k.in_ok-a.a there) k.requires.places k.read_member.result k.read_member.ensures.value (was-ok k.read_member.result k.ok.ensures.value k.in_ok-count.was)

  ends : k.in_ok-count.left ≤ length k.running-text.result.now
  ends = member-ends k.args.page.now k.args.ops.now k.running-text.result.now k.in_ok-a.a k.running-text.ensures (k.requires.texts k.in_ok-a.a there) k.requires.places one

  fits : k.in_ok-count.count ≤ length k.args.ops.now
  fits = member-room k.args.page.now k.args.ops.now k.running-text.result.now k.in_ok-a.a k.running-text.ensures (k.requires.texts k.in_ok-a.a there) k.requires.places one

  within : k.in_ok-a.a + length k.running-text.result.now < 65535
  within = inside k.args.page.now k.args.ops.now k.running-text.result.now (position_of k.args.from) k.in_ok-a.a k.requires there k.running-text.ensures

pub returns-in_err-a : goal.returns-in_err-a
returns-in_err-a c =
    let a = c.args in
    rw c.from_residual.ensures (fetch-none a.page.now (position_of a.from) (sym c.text_from.ensures ∙ ap begin_of c.in_err-a.was), omega arith)

pub returns-in_err-count : goal.returns-in_err-count
returns-in_err-count c =
    let a = c.args in
    let q = position_of a.from in
    let p = c.in_ok-a.a in
    let t = sym c.text_from.ensures ∙ ap begin_of c.in_ok-a.was in
    rw c.from_residual-in_err-count.ensures (
      no_member a.page.now a.ops.now c.running-text.result.now p c.running-text.ensures (c.requires.texts p t) c.requires.places c.read_member.result c.read_member.ensures.value (sym c.ok.ensures.variant ∙ ap is_some c.in_err-count.was)
          ∙ sym (fetch-some a.page.now q p t),
      omega arith,
    )

pub overflow_add-cr : goal.overflow_add-cr
overflow_add-cr c = let h = within (goal.at.overflow_add-cr c).In_ok-count in omega arith

pub overflow_sub-cr : goal.overflow_sub-cr
overflow_sub-cr c = let h = ends (goal.at.overflow_sub-cr c).In_ok-count in omega arith

pub at-requires : goal.at-requires
at-requires c = let h = within (goal.at.at-requires c).In_ok-count in omega arith

pub at-requires-2 : goal.at-requires-2
at-requires-2 c = let h = within (goal.at.at-requires-2 c).In_ok-count in omega arith

pub returns : goal.returns
returns c =
    let k = (goal.at.returns c).In_ok-count in
    let a = c.args in
    let p = c.in_ok-a.a in (
      rw (c.at-2.ensures, c.at.ensures)
          (member-fetched a.page.now a.ops.now c.running-text.result.now p c.running-text.ensures (c.requires.texts p (there k)) c.requires.places (one k) c.read_member.new.ops c.read_member.ensures.ops_after
          ∙ sym (fetch-some a.page.now (position_of a.from) p (there k))),
      fits k,
    )
