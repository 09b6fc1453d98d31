-- How long a record's arrays are, from what a function that takes the record knows of it, `c.good.0`. Assumes nothing.
use mathlib.Core.Path.{◌≡◌}
use lib.ListN.{length}
use denote.Laws.{Is}
use denote.Struct.Laws as LL
use Rattle.nibl.specs.declared.Session.{Session}
use Rattle.nibl.specs.declared.ForStack.{ForStack}
use Rattle.nibl.specs.declared.PlaceStack.{PlaceStack}
use Rattle.nibl.specs.contracts.Session as S
use Rattle.nibl.proofs.Session.TheLaws as S'
use Rattle.nibl.specs.contracts.ForStack as F
use Rattle.nibl.proofs.ForStack.TheLaws as F'
use Rattle.nibl.specs.contracts.PlaceStack as G
use Rattle.nibl.proofs.PlaceStack.TheLaws as G'

abbrev pub Known : Session → Type 0
Known s = Is S.the_row s (LL.vals S.the_type S'.the_laws s)

pub entries : (f : ForStack) → Is F.the_row f (LL.vals F.the_type F'.the_laws f) → length f.entries ≡ 4
entries f is = (LL.owed F.the_type F'.the_laws f _ is).1.0.1.0.1

pub places : (g : PlaceStack) → Is G.the_row g (LL.vals G.the_type G'.the_laws g) → length g.places ≡ 8
places g is = (LL.owed G.the_type G'.the_laws g _ is).1.0.1.0.1

module _ (s : Session) (is : Known s) where
  pub vars : length s.vars ≡ 26
  vars = (LL.owed S.the_type S'.the_laws s _ is).0.1.0.1

  pub for-entries : length s.fors.entries ≡ 4
  for-entries = entries s.fors (LL.owed S.the_type S'.the_laws s _ is).1.1.1.1.0

  pub gosub-places : length s.gosubs.places ≡ 8
  gosub-places = places s.gosubs (LL.owed S.the_type S'.the_laws s _ is).1.1.0

  pub do-places : length s.dos.places ≡ 8
  do-places = places s.dos (LL.owed S.the_type S'.the_laws s _ is).1.1.1.0
