-- `read_typed` meets its contract: the running text is the typed line. Assumes nothing.
use Rattle.std.specs.Prelude.{if◌then◌else◌}
use Prim.Native.Nat.{ℕ, ◌≤◌}
use mathlib.Core.List.{List}
use mathlib.Core.Path.{◌≡◌, ap, ◌∙◌}
use lib.ListN.{length}
use borrow.Author.Tests.{le-leb}
use Rattle.nibl.specs.found.Read.{typed}
use Rattle.reader.specs.Answers.{has_room}
use Rattle.line.specs.Answers.{kind_of, line_ops}
use Rattle.line.specs.declared.LineRead.{LineRead}
use Rattle.line.specs.declared.LineRead.TheVariants as line
use Rattle.obey.proofs.read_typed.Goals as goal

-- with room, and from the same text
reads-kind : {text s : List ℕ} (ops : List ℕ) {r : LineRead} → text ≡ s → length s ≤ length ops → length s ≤ 65535
    → r ≡ (if has_room text ops then kind_of (length text) (typed text) else line.NoRoom) → r ≡ kind_of (length s) (typed s)
reads-kind {s = s} ops e h k p =
    let u = p ∙ ap (λ (t : List ℕ). if has_room t ops then kind_of (length t) (typed t) else line.NoRoom) e in
    rw (le-leb (length s) (length ops) h, le-leb (length s) 65535 k) at u

reads-ops : {text s after : List ℕ} (ops : List ℕ) → text ≡ s → length s ≤ length ops → length s ≤ 65535
    → after ≡ (if has_room text ops then line_ops ops (typed text) else ops) → after ≡ line_ops ops (typed s)
reads-ops {s = s} ops e h k p =
    let v = p ∙ ap (λ (t : List ℕ). if has_room t ops then line_ops ops (typed t) else ops) e in
    rw (le-leb (length s) (length ops) h, le-leb (length s) 65535 k) at v

pub returns : goal.returns
returns c =
    record {
      value = reads-kind c.args.ops.now c.running-text.ensures c.requires.0 c.requires.1 c.read_line.ensures.value;
      ops_after = reads-ops c.args.ops.now c.running-text.ensures c.requires.0 c.requires.1 c.read_line.ensures.ops_after;
    }
