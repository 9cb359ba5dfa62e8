use Rattle.std.proofs.Common.{refl}
use Rattle.store_theory.proofs.Books.{book_and_store_agree}
use Rattle.store_theory.proofs.most_cues.Goals as goal

pub returns : goal.returns
returns c = record { value = refl; book_and_store_agree = book_and_store_agree }
