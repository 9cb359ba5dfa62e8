use Rattle.std.proofs.Common.{sym}
use Rattle.theory.proofs.Trips.{mends_what_is_in_reach}
use Rattle.codes.specs.Refusals.{outcome}
use Rattle.codes.proofs.trips.mend_in_reach.Goals as goal

pub returns : goal.returns
returns g c =
    record {
      answer = λ fit. c.mend.ensures fit;
      mends_what_is_in_reach = λ fit.
          mends_what_is_in_reach g.C.Symbols.Alphabet.symbols (g.C.Code.meaning c.args.code.now) (g.met.C.Code.keeps c.args.code.now fit) c.args.received.now (outcome c.mend.result) c.mend.new.memory (sym (c.mend.ensures fit));
    }
