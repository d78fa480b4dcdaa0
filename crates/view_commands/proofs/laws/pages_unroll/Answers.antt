use Rattle.std.proofs.Common.{◌∙◌, ap, length}
use Rattle.page_text.specs.Films.{film_of, frames_in}
use Rattle.page_text.specs.Frames.{frames_to, size_of, texts_from}
use Rattle.page_text.proofs.Films.{unmarked_film, unrolls}
use Rattle.page_text.proofs.Marks.{escaped_same}
use Rattle.view_commands.proofs.Playable.{playable}
use Rattle.view_commands.proofs.laws.pages_unroll.Goals as goal

pub returns : goal.returns
returns c = λ level script g n same.
    let can = playable level script g same in
    ap (λ film. texts_from 1 (frames_in (size_of g) (length g.trees) n film)) (escaped_same (film_of (frames_to g n)) (unmarked_film g n can))
    ∙ unrolls g n can
