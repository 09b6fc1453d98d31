-- The first member of a text, from its statement and its end. Assumes nothing.
use Rattle.std.specs.Prelude.{if◌then◌else◌}
use Rattle.std.specs.Prelude.{Option, Result, Ok, Err, Some, None}
use Rattle.reader.specs.declared.Unread.{Unread}
use Rattle.reader.specs.declared.Unread.TheVariants as unread
use Prim.Native.Nat.{ℕ}
use mathlib.Core.Path.{◌≡◌, refl, sym, ap, ◌∙◌}
use mathlib.Core.Bool.{true, false}
use mathlib.Core.List.{List}
use native.Mathlib.Omega.{arith}
use borrow.Author.Tests.{leb-true}
use lib.ListN.{length, drop, replicate}
use lib.Seq.{sets}
use lib.Dec.{leb}
use Rattle.nibl.specs.Tree.{Member}
use Rattle.nibl.specs.found.Read.{nothing, found, statement, ends_member, member}
use Rattle.nibl.proofs.Words.{and_left, and_right}
use Rattle.word.specs.declared.Cursor.{Cursor}
use Rattle.relation.specs.Makes.{Gives, stopped, refused, given, only, bare}
use Rattle.relation.specs.Made.{Made}
use Rattle.relation.proofs.Readers.{then_found, then-nothing}
use Rattle.reader.specs.Code.{compile}
use Rattle.reader.specs.Forms.{Room, Spends, EndsIs, halted, refused as unended, ends}
use Rattle.reader.specs.Answers.{has_room, zeros, member_of, member_ops}

abbrev pub start : Made
start = Some ((record { at = 0 }), 0)

pub start-room : (text ops : List ℕ) → has_room text ops ≡ true → Room 0 text ops start
start-room text ops h =
    let a = leb-true (length text) (length ops) (and_left (leb (length text) (length ops)) (leb (length text) 65535) h) in
    let b = leb-true (length text) 65535 (and_right (leb (length text) (length ops)) (leb (length text) 65535) h) in
    record { fits = omega arith; small = b }

abbrev ahead_of : Made → ℕ
ahead_of None = 0
ahead_of (Some (c, o)) = c.at

abbrev count_of : Made → ℕ
count_of None = 0
count_of (Some (c, o)) = o

-- the promise of `read_member`
pub record MemberIs (text ops : List ℕ) (r : Result (ℕ × ℕ) Unread) (ops' : List ℕ) : Type 0 where
  pub answer : r ≡ (if has_room text ops then member_of (member text) else (Err unread.NoRoom))
  pub left : ops' ≡ (if has_room text ops then member_ops ops (member text) else ops)

pub member-room : (text ops : List ℕ) → has_room text ops ≡ false → MemberIs text ops (Err unread.NoRoom) ops
member-room text ops h = record { answer = rw h; left = rw h }

module _ {text ops : List ℕ} (room : has_room text ops ≡ true) where
  by-found : {ops1 : List ℕ} {m : Member} {t : List ℕ} → member text ≡ found m t → ops1 ≡ sets ops 0 (compile m.statement) → {n l : ℕ} → n ≡ length (compile m.statement) → l ≡ m.left
      → MemberIs text ops (Ok (n, l)) ops1
  by-found e f g h = record { answer = rw (room, e, g, h); left = rw (room, e, f) }

  by-nothing : {ops2 : List ℕ} → member text ≡ nothing → ops2 ≡ zeros ops → MemberIs text ops (Err unread.NoReading) ops2
  by-nothing e f = record { answer = rw (room, e); left = rw (room, e, f) }

-- what was read from the start of the text
at-start : {A : Type 0} {text : List ℕ} {c : Cursor} {o : ℕ} (F : List ℕ → A) → Some (c, o) ≡ start → F (drop c.at text) ≡ F text
at-start {text} {c} F e = let i : c.at ≡ 0 = ap ahead_of e in rw i

member-unread : {text ops ops1 : List ℕ} {r s : Made} → r ≡ start → Gives (only statement) bare compile text ops ops1 r s → EndsIs text s None → member text ≡ nothing
unfolding member
member-unread e stopped halted = let z : ◌≡◌ {A = ℕ} 0 1 = cc in absurd (omega arith)
member-unread {text} e (refused f) halted = then-nothing statement ends_member text (sym (at-start statement e) ∙ f tt)
member-unread {text} e (given grow tail f g h w) (unended k) = then_found statement ends_member text (sym (at-start statement e) ∙ f tt) ∙ k (grow tt)

module _ {text ops ops1 : List ℕ} (room : has_room text ops ≡ true) where
  member-gives : {r s : Made} {n l : ℕ} → r ≡ start → Gives (only statement) bare compile text ops ops1 r s → EndsIs text s (Some (n, l)) → MemberIs text ops (Ok (n, l)) ops1
  unfolding member
  member-gives e (given {o} grow tail f g h w) (ends l t k) =
      let z : o ≡ 0 = ap count_of e in
      by-found room (then_found statement ends_member text (sym (at-start statement e) ∙ f tt) ∙ k (grow tt)) (w.buf ∙ rw (z, g tt)) (w.pos ∙ rw (z, g tt) (omega arith)) refl
  member-gives e stopped x = elim x [ ]
  member-gives e (refused _) x = elim x [ ]

  pub member-found : {s : Made} {m : Option (ℕ × ℕ)} {p : ℕ × ℕ} → m ≡ Some p → Spends 0 (only statement) bare compile text ops start ops1 s → EndsIs text s m
      → MemberIs text ops (Ok p) ops1
  member-found e y h = member-gives refl y.gives (rw e at h)

  pub member-none : {ops2 : List ℕ} {s : Made} {m : Option (ℕ × ℕ)} → m ≡ None → Spends 0 (only statement) bare compile text ops start ops1 s → EndsIs text s m
      → ops2 ≡ zeros ops1 → length ops1 ≡ length ops → MemberIs text ops (Err unread.NoReading) ops2
  member-none d y h e f = by-nothing room (member-unread refl y.gives (rw d at h)) (e ∙ ap (λ n. replicate n 0) f)
