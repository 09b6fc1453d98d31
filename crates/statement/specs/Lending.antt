-- What must hold of what is lent to a statement, and what is done with a reply.
use Rattle.std.specs.Prelude.{ℕ, ◌≤◌, ◌<◌, Bool, true, false, List, length}
use Rattle.nibl.specs.Page.{used}
use Rattle.nibl.specs.found.Read.{replied}
use Rattle.nibl.specs.Meaning.{World, Done}
use Rattle.nibl.specs.declared.access.Sight.{Sight}
use Rattle.world.specs.declared.jump.Way.{Way}
use Rattle.world.specs.declared.jump.Way.TheVariants as way
use Rattle.operation.specs.Stacks.{sources, assigning, assigned_in}

abbrev pub is_on : Way → Bool
is_on way.On = true
is_on way.Skip = false
is_on (way.Go q) = false
is_on (way.Stop n) = false

-- what is lent holds to: a page whose places and used bytes are 16-bit numbers; room for a statement's values, and for a
-- reply, its operations and their values
pub record Fair (page ops values reply replies : List ℕ) : Type 0 where
  pub places : length page ≤ 65535
  pub top : used page < 65536
  pub stack : length ops ≤ length values
  pub reply_ops : length reply ≤ length replies
  pub reply_values : length replies ≤ length values
  pub short : length reply ≤ 65535

-- the relations of a reply for n variables
abbrev pub takes_reply : Sight → List ℕ → List ℕ → ℕ → World → List ℕ → Done
takes_reply sight page vs n w bs =
    assigned_in w (assigning (sources w.session.vars w.session.flags sight page w.memory) vs (replied n bs))
