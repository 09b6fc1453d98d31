-- What is known of a text that a page may hold: it has a reading, so only text bytes, and it is within the limit. Assumes nothing.
use Prim.Native.Nat.{ℕ, ◌+◌, ◌≤◌}
use mathlib.Core.Path.{◌≡◌, refl}
use mathlib.Core.Bool.{true, false, not, false≢true}
use mathlib.Core.List.{List}
use mathlib.Core.Option.{Option, none, some}
use lib.ListN.{length}
use borrow.Author.Tests.{leb-true, not-true}
use Rattle.nibl.specs.Bytes.{is_digit, is_text, starts, All}
use Rattle.nibl.specs.Tree.{Member}
use Rattle.nibl.specs.found.Read.{reading}
use Rattle.nibl.specs.Values.{digits}
use Rattle.nibl.specs.Page.{Stored, has_reading, is_storable}
use Rattle.nibl.proofs.Lines.{reading-sound}
use Rattle.nibl.proofs.Ends.{members-text}
use Rattle.page.proofs.Program.{both, Storable}

pub record Read (t : List ℕ) : Type 0 where
  pub members : List Member
  pub reads : reading t ≡ some members

pub read-text : {t : List ℕ} → Read t → All is_text t
read-text {t = t} r = members-text (reading-sound t r.members r.reads)

module _ (lim n : ℕ) (t : List ℕ) (e : is_storable lim n t ≡ true) where
  pub storable-read : Read t
  unfolding is_storable
  storable-read = by (reading t) refl (both (has_reading (reading t)) _ e).0
    where
      by : (o : Option (List Member)) → reading t ≡ o → has_reading o ≡ true → Read t
      by none f h = absurd (false≢true h)
      by (some ms) f h = record { members = ms; reads = f }

  pub storable-undigit : starts is_digit t ≡ false
  unfolding is_storable
  storable-undigit = not-true _ (both (not (starts is_digit t)) _ (both (has_reading (reading t)) _ e).1).0

  pub storable-short : length t + length (digits n) ≤ lim
  unfolding is_storable
  storable-short = leb-true _ _ (both (not (starts is_digit t)) _ (both (has_reading (reading t)) _ e).1).1

-- the same of a record
pub stored-read : {lim : ℕ} {r : Stored} → Storable lim r → Read r.text
stored-read {lim = lim} {r = r} s = storable-read lim r.line r.text s.text

pub stored-text : {lim : ℕ} {r : Stored} → Storable lim r → All is_text r.text
stored-text s = read-text (stored-read s)

pub stored-undigit : {lim : ℕ} {r : Stored} → Storable lim r → starts is_digit r.text ≡ false
stored-undigit {lim = lim} {r = r} s = storable-undigit lim r.line r.text s.text

pub stored_short : {lim : ℕ} {r : Stored} → Storable lim r → length r.text + length (digits r.line) ≤ lim
stored_short {lim = lim} {r = r} s = storable-short lim r.line r.text s.text
