-- The world of the definition, from what the functions are lent and given, and what their answers say of it.
use Rattle.std.specs.Prelude.{ℕ, List, [], ◌∷◌, ◌++◌, ◌≡◌}
use Rattle.std.specs.Prelude.{Option, Some, None, Result, Ok, Err}
use Rattle.nibl.specs.declared.stop.Stop.{Stop}
use Rattle.nibl.specs.Bytes.{byte_cr}
use Rattle.nibl.specs.Meaning.{World, Env, Done, done, given, put, string_at, store_at, keep_in}
use Rattle.nibl.specs.Record.{position, nowhere, session_of, parts_at}
use Rattle.nibl.specs.declared.Place.{Place}
use Rattle.nibl.specs.declared.access.Access.{Access}
use Rattle.nibl.specs.declared.access.Sight.{Sight}
use Rattle.nibl.specs.declared.Parts.{Parts}
use Rattle.world.specs.Turns.{way_of}
use Rattle.world.specs.declared.jump.Way.{Way}
use Rattle.world.specs.declared.jump.Way.TheVariants as way
use Rattle.world.specs.Hearing.{hearing, heard_in}
use Rattle.effect.specs.declared.Did.{Did}

-- a run has no pause: a call ends it before
abbrev pub world_with : List ℕ → Parts → List ℕ → List ℕ → World
world_with vars p memory output =
    record { session = session_of p vars nowhere; memory = memory; output = output; outpos = p.outpos; inpos = p.inpos }

abbrev pub env_with : ℕ → List ℕ → List ℕ → Sight → Place → Env
env_with lim page input sight here = record { lim = lim; page = page; input = input; sight = sight; here = position here }

-- what is seen by one that does not ask for the sense byte
abbrev pub unsensing : Access → Sight
unsensing x = record { sense = 0; access = x }

abbrev pub did : Way → Parts → Did
did w p = record { way = w; parts = p }

abbrev pub did_in : Did → List ℕ → List ℕ → List ℕ → Done
did_in d vars memory output = done (way_of d.way) (world_with vars d.parts memory output)

-- how a store ended, and an output item: it is out whole, or 17
abbrev pub stored_way : Result (Unit {0}) Stop → Way
stored_way (Ok u) = way.On
stored_way (Err s) = way.Stop s

abbrev pub wrote_in : Parts → Option ℕ → Did
wrote_in p (Some o) = did way.On (parts_at p p.inpos o)
wrote_in p None = did (way.Stop (record { 0 = 17 })) p

-- what a function did, in any world that has these parts: the variables are as they were
pub record KeepsVars (p : Parts) (memory output : List ℕ) (f : World → Done) (r : Did) (memory' output' : List ℕ) : Type 0 where
  pub done-in : (vars : List ℕ) → did_in r vars memory' output' ≡ f (world_with vars p memory output)

-- PRINT of a stored string
abbrev pub put_stored : Access → ℕ → World → Done
put_stored x a w = given (string_at x w.memory a) w (λ bs. put bs w)

-- INPUT of a string: the reply and its CR go into memory
abbrev pub keep_text : Access → ℕ → World → List ℕ → Done
keep_text x a w bs = keep_in w (store_at x w.memory a (bs ++ (byte_cr ∷ [])))

abbrev pub keep_reply : Access → ℕ → List ℕ → ℕ → World → Done
keep_reply x lim input a w = heard_in w (hearing lim input w.inpos w.output w.outpos) (keep_text x a)
