use Rattle.page_text.proofs.Films.{unrolls}
use Rattle.page_text.proofs.film_laws.films_unroll.Goals as goal

pub returns : goal.returns
returns c = λ g n can. unrolls g n can
