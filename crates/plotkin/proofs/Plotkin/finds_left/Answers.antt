use Rattle.std.proofs.Common.{Bool, sym, ap, ◌∙◌}
use Rattle.plotkin.specs.Kept.{kept}
use Rattle.theory.proofs.Halves.{sought_first, sought_second}
use Rattle.theory.proofs.Seeking.{answered}
use Rattle.plotkin.proofs.Plotkin.finds_left.Goals as goal

pub returns-then-fits_whole : goal.returns-then-fits_whole
returns-then-fits_whole g c fit =
    let self = c.args.self.now in
    sought_first g.U.Symbols.Alphabet.symbols (g.U.Code.meaning self.left.code) (kept self.left.numbers self.right.numbers) _ _ (ap (λ (b : Bool). answered b c.fits_whole.new.memory) (sym c.if-fits_whole.true) ∙ c.fits_whole.ensures fit)

pub returns : goal.returns
returns g c fit =
    let self = c.args.self.now in
    sought_second g.U.Symbols.Alphabet.symbols (g.U.Code.meaning self.left.code) (kept self.left.numbers self.right.numbers) _ _ (ap (λ (b : Bool). answered b c.fits_whole.new.memory) (sym c.if-fits_whole.false) ∙ c.fits_whole.ensures fit) _ c.combine.ensures _ _ (c.fits_whole-2.ensures fit)
