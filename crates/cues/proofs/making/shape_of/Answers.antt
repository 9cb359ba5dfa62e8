use Rattle.std.proofs.Common.{sym, refl, ap, arith}
use Rattle.std.proofs.lemmas.Bool.Decides.{nat_tests}
use Rattle.store_theory.specs.Calls.{outcome_of}
use Rattle.store_theory.specs.Checks.{making_check}
use Rattle.cues.proofs.Makings.{width_some, width_narrow, few_level_symbols, few_words, few_cue_cells, few_cells_lem, enough_words_lem, words_are, too_many_cells, making_accepted}
use Rattle.cues.proofs.making.shape_of.Goals as goal

pub returns-then-cues-lt1-clause-making : goal.returns-then-cues-lt1-clause-making
unfolding making_check
returns-then-cues-lt1-clause-making g c fit = grind (arith, nat_tests)

pub overflow_mul-words : goal.overflow_mul-words
overflow_mul-words g c =
    let narrow = width_narrow g.C.Symbols.Alphabet.symbols g.met.C.Symbols.Alphabet.lawful in
    omega (arith, narrow, few_level_symbols c.args.cues c.args.levels c.width-width.result (omega arith) (omega arith) (omega (arith, narrow)))

pub overflow_add-words : goal.overflow_add-words
overflow_add-words g c =
    let narrow = width_narrow g.C.Symbols.Alphabet.symbols g.met.C.Symbols.Alphabet.lawful in
    omega (arith, narrow, c.in-Some.numbers.message, c.in-Some.numbers.bounded, few_level_symbols c.args.cues c.args.levels c.width-width.result (omega arith) (omega arith) (omega (arith, narrow)))

pub overflow_mul-block : goal.overflow_mul-block
overflow_mul-block g c =
    let narrow = width_narrow g.C.Symbols.Alphabet.symbols g.met.C.Symbols.Alphabet.lawful in
    omega (arith, few_cue_cells c.args.cues c.args.levels c.width-width.result (omega arith) (omega arith) (omega (arith, narrow)) c.in-Some.numbers.length c.in-Some.numbers.dimension (omega (arith, c.in-Some.numbers.word, c.in-Some.numbers.bounded)) (omega (arith, c.in-Some.numbers.message, c.in-Some.numbers.bounded)))

pub overflow_mul-cells : goal.overflow_mul-cells
overflow_mul-cells g c =
    let narrow = width_narrow g.C.Symbols.Alphabet.symbols g.met.C.Symbols.Alphabet.lawful in
    omega (arith, few_cells_lem c.args.cues c.args.levels c.width-width.result (omega arith) (omega arith) (omega (arith, narrow)) c.in-Some.numbers.length c.in-Some.numbers.dimension (omega (arith, c.in-Some.numbers.word, c.in-Some.numbers.bounded)) (omega (arith, c.in-Some.numbers.message, c.in-Some.numbers.bounded)))

pub returns-then-cells-gt-MOST_CELLS : goal.returns-then-cells-gt-MOST_CELLS
returns-then-cells-gt-MOST_CELLS g c =
    record {
      making = λ fit. too_many_cells g.C.Symbols.Alphabet.symbols (g.C.Code.meaning c.args.code.now) c.args.cues c.args.levels c.width-width.result c.in-Some.numbers (c.in-Some.ensures fit) c.width-width.ensures (omega arith) (omega arith) (omega arith) (omega arith) c.if-cells-gt-MOST_CELLS.true;
      fits = λ fit. tt;
      plan = tt;
    }

pub invariant_of-result : goal.invariant_of-result
invariant_of-result g c =
    let laws = g.met.C.Symbols.Alphabet.lawful in
    let narrow = width_narrow g.C.Symbols.Alphabet.symbols laws in
    let some = width_some g.C.Symbols.Alphabet.symbols laws in
    record {
      some_symbols = omega arith;
      two_symbols = omega (arith, laws.two_symbols, c.order-order.ensures);
      few_symbols = omega (arith, laws.few_symbols, c.order-order.ensures);
      some_width = omega (arith, some);
      narrow = omega (arith, narrow);
      few_cues = omega arith;
      few_levels = omega arith;
      few_words = few_words c.args.cues c.args.levels c.width-width.result (omega arith) (omega arith) (omega (arith, narrow)) c.in-Some.numbers.length c.in-Some.numbers.dimension (omega (arith, c.in-Some.numbers.word, c.in-Some.numbers.bounded)) (omega (arith, c.in-Some.numbers.message, c.in-Some.numbers.bounded));
      enough_words = enough_words_lem c.args.levels c.width-width.result c.in-Some.numbers.dimension (omega arith);
      of_a_cue = refl;
      of_all_cues = refl;
      few_cells = omega arith;
    }

pub returns : goal.returns
returns g c =
    let accepts = λ (fit : g.C.Code.fit c.args.code.now). making_accepted g.C.Symbols.Alphabet.symbols (g.C.Code.meaning c.args.code.now) c.args.cues c.args.levels c.width-width.result c.in-Some.numbers (c.in-Some.ensures fit) c.width-width.ensures (omega arith) (omega arith) (omega arith) (omega arith) c.if-cells-gt-MOST_CELLS.false in
    record {
      making = λ fit. sym (ap outcome_of (accepts fit));
      fits = λ fit. record {
        order = c.order-order.ensures;
        width = c.width-width.ensures;
        numbers = c.in-Some.ensures fit;
        words = words_are g.C.Symbols.Alphabet.symbols (g.C.Code.meaning c.args.code.now) c.args.cues c.args.levels c.width-width.result c.in-Some.numbers (c.in-Some.ensures fit) c.width-width.ensures;
        making = accepts fit;
      };
      plan = refl;
    }
