-- What a core shows.
use Rattle.std.specs.Prelude.{ℕ, List}
use Rattle.ept_point.specs.declared.point.Point.{Point}
use Rattle.ept_space.specs.declared.cube.Rules.{Rules}
use Rattle.ept_core.specs.declared.engine.Core.{Core}
use Rattle.ept_core.specs.State.{State}
use Rattle.ept_core.specs.Machine.{state_of}

-- its state
abbrev pub shown : Core → State
shown core = state_of core.machine

-- its rules, which no event changes
abbrev pub rules_of : Core → Rules
rules_of core = core.machine.rules

-- its points, which no event changes
abbrev pub points_of : Core → List Point
points_of core = core.machine.points

-- how many actors it has
abbrev pub actors_of : Core → ℕ
actors_of core = core.machine.actors
