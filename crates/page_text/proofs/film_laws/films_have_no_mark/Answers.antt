use Rattle.page_text.proofs.Films.{unmarked_film}
use Rattle.page_text.proofs.film_laws.films_have_no_mark.Goals as goal

pub returns : goal.returns
returns c = λ g n can. unmarked_film g n can
