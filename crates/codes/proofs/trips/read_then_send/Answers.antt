use Rattle.std.proofs.lemmas.Result.{err_from_is_err_and}
use Rattle.theory.specs.Calls.{read_back, sent}
use Rattle.theory.specs.Trips.{word_returned}
use Rattle.theory.proofs.Trips.{read_refused, read_then_send_lem}
use Rattle.codes.proofs.Calls.{refused_first, accepted_first}
use Rattle.codes.proofs.trips.read_then_send.Goals as goal

pub returns-in_err-read : goal.returns-in_err-read
returns-in_err-read g c =
    record {
      gives_the_word = λ fit.
          let A = g.C.Symbols.Alphabet.symbols in
          let m = g.C.Code.meaning c.args.code.now in
          let xs = c.args.word.now in
          refused_first (read_back A m xs) (word_returned A m xs) (read_refused A m (g.met.C.Code.keeps c.args.code.now fit) xs) c.read.result c.from_residual.result c.in_err-read.field-0.0 c.read.new.memory c.in_err-read.was (err_from_is_err_and c.from_residual.result c.from_residual.ensures.1) (c.read.ensures fit);
    }

pub returns : goal.returns
returns g c =
    record {
      gives_the_word = λ fit.
          let A = g.C.Symbols.Alphabet.symbols in
          let m = g.C.Code.meaning c.args.code.now in
          let xs = c.args.word.now in
          accepted_first (read_back A m xs) (word_returned A m xs) (sent A m) (read_then_send_lem A m (g.met.C.Code.keeps c.args.code.now fit) xs) c.read.result c.in_ok-read.field-0 c.read.new.memory _ c.in_ok-read.was (c.read.ensures fit) (c.send.ensures fit);
    }
