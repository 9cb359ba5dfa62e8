use Rattle.std.proofs.lemmas.Result.{err_from_is_err_and}
use Rattle.theory.specs.Calls.{read_back, sent}
use Rattle.theory.specs.Trips.{message_returned}
use Rattle.theory.proofs.Trips.{send_refused, send_then_read_lem}
use Rattle.codes.proofs.Calls.{refused_first, accepted_first}
use Rattle.codes.proofs.trips.send_then_read.Goals as goal

pub returns-in_err-send : goal.returns-in_err-send
returns-in_err-send g c =
    record {
      gives_the_message = λ fit.
          let A = g.C.Symbols.Alphabet.symbols in
          let m = g.C.Code.meaning c.args.code.now in
          let xs = c.args.message.now in
          refused_first (sent A m xs) (message_returned A m xs) (send_refused A m (g.met.C.Code.keeps c.args.code.now fit) xs) c.send.result c.from_residual.result c.in_err-send.field-0.0 c.send.new.memory c.in_err-send.was (err_from_is_err_and c.from_residual.result c.from_residual.ensures.1) (c.send.ensures fit);
    }

pub returns : goal.returns
returns g c =
    record {
      gives_the_message = λ fit.
          let A = g.C.Symbols.Alphabet.symbols in
          let m = g.C.Code.meaning c.args.code.now in
          let xs = c.args.message.now in
          accepted_first (sent A m xs) (message_returned A m xs) (read_back A m) (send_then_read_lem A m (g.met.C.Code.keeps c.args.code.now fit) xs) c.send.result c.in_ok-send.field-0 c.send.new.memory _ c.in_ok-send.was (c.send.ensures fit) (c.read.ensures fit);
    }
