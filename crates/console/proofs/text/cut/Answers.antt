use Rattle.std.proofs.Common.{◌+◌, rules, tests}
use Rattle.std.proofs.lemmas.List.{take_rest}
use Rattle.std.proofs.lemmas.Iterator.{YieldsList-from_slice}
use Rattle.std.proofs.lemmas.Iterator.Search.{position_from_yields_List}
use Rattle.console.proofs.Cutting.{cut_at, cut_nowhere}
use Rattle.console.proofs.text.cut.Goals as goal

pub returns-in-Some : goal.returns-in-Some
returns-in-Some c =
    let xs = c.args.bytes.now in
    let found = position_from_yields_List _ _ _ c.position.result c.position.ensures.ran (YieldsList-from_slice xs cc) (λ x b q k. search (rules, tests)) in
    let cut = cut_at c.args.separator xs c.position.result found c.in-Some.place c.in-Some.is in
    record { piece = cut.0; rest = rw (take_rest xs (c.in-Some.place + 1)) cut.1 }

pub returns-in-None : goal.returns-in-None
returns-in-None c =
    let xs = c.args.bytes.now in
    let found = position_from_yields_List _ _ _ c.position.result c.position.ensures.ran (YieldsList-from_slice xs cc) (λ x b q k. search (rules, tests)) in
    let cut = cut_nowhere c.args.separator xs c.position.result found c.in-None.is in
    record { piece = cut.0; rest = cut.1 }
