use Rattle.std.proofs.Common.{ℕ, nat_le, sym, ap, ◌∙◌}
use Rattle.std.specs.List.{position}
use Rattle.codes.proofs.Chains.{first_mark_is}
use Rattle.codes.proofs.tolls.first_mark.Goals as goal

pub returns : goal.returns
returns g c =
    c.first_from.ensures
    ∙ ap (λ (q : ℕ). position (λ x. nat_le q x) c.args.bytes.now) c.order.ensures
    ∙ sym (first_mark_is g.S.Alphabet.symbols.q c.args.bytes.now)
