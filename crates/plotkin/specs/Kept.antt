-- The numbers of both parts as the join keeps them, and that it keeps its meaning. Assumes nothing.
use Rattle.std.specs.Prelude.{◌≡◌, ◌+◌, ◌*◌, ◌≤◌, min}
use Rattle.std.proofs.Common.{sym, ◌∙◌, arith}
use Rattle.parts.specs.Numbers.{NumbersOf}
use Rattle.parts.specs.declared.numbers.Numbers.{Numbers}
use Rattle.theory.specs.Alphabets.{Arithmetic, Lawful}
use Rattle.theory.specs.Halves.{Halves}
use Rattle.theory.specs.Joins.{plotkin}
use Rattle.theory.specs.Meanings.{Meaning, Keeps}
use Rattle.theory.proofs.Plotkin.{plotkin_keeps}

abbrev pub kept : Numbers → Numbers → Halves
kept u v =
    record { n = u.length; ku = u.dimension; kv = v.dimension; wu = u.working; wv = v.working; d = min (2 * u.distance) v.distance }

pub keeps_meaning : {A : Arithmetic} {u v : Meaning} {nu nv : Numbers} → Lawful A → Keeps A u → Keeps A v → NumbersOf nu u → NumbersOf nv v → nu.length ≡ nv.length → 3 * nu.length + nu.working + nv.working ≤ 4096 → Keeps A (plotkin A u v)
keeps_meaning {A} {u} {v} laws keeps-u keeps-v of-u of-v level bounded =
    plotkin_keeps A laws u v keeps-u keeps-v (sym of-u.length ∙ level ∙ of-v.length) (omega (arith, of-u.length, of-u.working, of-v.working))
