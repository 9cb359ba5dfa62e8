use Rattle.std.proofs.lemmas.Result.{err_from_is_err_and}
use Rattle.theory.specs.Calls.{mended, sent}
use Rattle.theory.proofs.Trips.{send_then_mend_lem}
use Rattle.codes.proofs.Calls.{refused_first, accepted_first}
use Rattle.codes.proofs.trips.send_then_mend.Goals as goal

pub returns-in_err-send : goal.returns-in_err-send
returns-in_err-send g c =
    record {
      leaves_what_was_sent = λ fit.
          let A = g.C.Symbols.Alphabet.symbols in
          let m = g.C.Code.meaning c.args.code.now in
          let xs = c.args.memory.now in
          refused_first (sent A m xs) (sent A m xs) (λ n values ys e. e) c.send.result c.from_residual.result c.in_err-send.field-0.0 c.send.new.memory c.in_err-send.was (err_from_is_err_and c.from_residual.result c.from_residual.ensures.1) (c.send.ensures fit);
    }

pub returns : goal.returns
returns g c =
    record {
      leaves_what_was_sent = λ fit.
          let A = g.C.Symbols.Alphabet.symbols in
          let m = g.C.Code.meaning c.args.code.now in
          let xs = c.args.memory.now in
          accepted_first (sent A m xs) (sent A m xs) (mended A m) (send_then_mend_lem A m (g.met.C.Code.keeps c.args.code.now fit) xs) c.send.result c.in_ok-send.field-0 c.send.new.memory _ c.in_ok-send.was (c.send.ensures fit) (c.mend.ensures fit);
    }
