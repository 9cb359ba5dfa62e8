use Rattle.std.proofs.Common.{arith, leb, sym, ◌*◌, ◌∙◌}
use Rattle.std.proofs.lemmas.Bool.{le-leb, lt-leb}
use Rattle.theory.specs.Joins.{plotkin}
use Rattle.theory.proofs.Plotkin.{plotkin_shows}
use Rattle.theory.proofs.Padding.{shown_by_left, shown_by_right}
use Rattle.theory.proofs.Piles.{shown_pair_is_at_the_distance}
use Rattle.plotkin.proofs.PlotkinShowing.show.Goals as goal

pub returns-then-u-v-clause-answer : goal.returns-then-u-v-clause-answer
returns-then-u-v-clause-answer g c fit =
    let self = c.args.self.now in
    let of-u = self.left.asked fit.0 in
    let of-v = self.right.asked fit.1 in
    let u = g.U.Code.meaning self.left.code in
    let v = g.V.Code.meaning self.right.code in
    let keeps-u = g.met.U.Code.keeps self.left.code fit.0 in
    let keeps-v = g.met.V.Code.keeps self.right.code fit.1 in
    c.show_padded.ensures fit.0
    ∙ shown_by_left u v (plotkin g.U.Symbols.Alphabet.symbols u v) _ _ _ _ _ (omega arith) (omega (arith, keeps-u.room_for_message, keeps-v.room_for_message)) (omega arith) of-v.dimension (leb (2 * u.d) v.d) (le-leb (2 * u.d) v.d (omega arith))

pub returns-then-u-v-clause-at_distance : goal.returns-then-u-v-clause-at_distance
returns-then-u-v-clause-at_distance g c fit =
    let self = c.args.self.now in
    let of-u = self.left.asked fit.0 in
    let of-v = self.right.asked fit.1 in
    plotkin_shows _ g.met.U.Symbols.Alphabet.lawful _ _ (g.met.U.Code.keeps self.left.code fit.0) (g.met.V.Code.keeps self.right.code fit.1) (sym of-u.length ∙ self.level ∙ of-v.length) _ _ (g.met.U.Showing.shows self.left.code fit.0) (g.met.V.Showing.shows self.right.code fit.1)

pub returns-then-u-v-clause-shown_pair_is_at_the_distance : goal.returns-then-u-v-clause-shown_pair_is_at_the_distance
returns-then-u-v-clause-shown_pair_is_at_the_distance g c = shown_pair_is_at_the_distance

pub returns-else-u-v-clause-answer : goal.returns-else-u-v-clause-answer
returns-else-u-v-clause-answer g c fit =
    let self = c.args.self.now in
    let of-u = self.left.asked fit.0 in
    let of-v = self.right.asked fit.1 in
    let u = g.U.Code.meaning self.left.code in
    let v = g.V.Code.meaning self.right.code in
    let keeps-u = g.met.U.Code.keeps self.left.code fit.0 in
    let keeps-v = g.met.V.Code.keeps self.right.code fit.1 in
    c.show_padded-else-u-v.ensures fit.1
    ∙ shown_by_right u v (plotkin g.U.Symbols.Alphabet.symbols u v) _ _ _ _ _ (omega arith) (omega (arith, keeps-u.room_for_message, keeps-v.room_for_message)) (omega arith) of-u.dimension (leb (2 * u.d) v.d) (lt-leb (2 * u.d) v.d (omega arith))

pub returns-else-u-v-clause-at_distance : goal.returns-else-u-v-clause-at_distance
returns-else-u-v-clause-at_distance g c fit =
    let self = c.args.self.now in
    let of-u = self.left.asked fit.0 in
    let of-v = self.right.asked fit.1 in
    plotkin_shows _ g.met.U.Symbols.Alphabet.lawful _ _ (g.met.U.Code.keeps self.left.code fit.0) (g.met.V.Code.keeps self.right.code fit.1) (sym of-u.length ∙ self.level ∙ of-v.length) _ _ (g.met.U.Showing.shows self.left.code fit.0) (g.met.V.Showing.shows self.right.code fit.1)

pub returns-else-u-v-clause-shown_pair_is_at_the_distance : goal.returns-else-u-v-clause-shown_pair_is_at_the_distance
returns-else-u-v-clause-shown_pair_is_at_the_distance g c = shown_pair_is_at_the_distance
