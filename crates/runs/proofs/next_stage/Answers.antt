use Rattle.lent.specs.Mem.{mem}
use Rattle.rules.specs.Laws.{law}
use Rattle.runs.proofs.Staging.{kept_beside, stage_stepped}
use Rattle.runs.proofs.next_stage.Goals as goal

pub returns-clause-home : goal.returns-clause-home
returns-clause-home c =
    kept_beside (mem c.args.words.now) (mem c.next.new.words) c.args.home c.free_place.result c.requires.home c.free_place.ensures.first c.next.ensures.beside

pub returns-clause-last : goal.returns-clause-last
returns-clause-last c =
    kept_beside (mem c.args.words.now) (mem c.next.new.words) c.args.last c.free_place.result c.requires.last c.free_place.ensures.second c.next.ensures.beside

pub returns-clause-made : goal.returns-clause-made
returns-clause-made c =
    stage_stepped (law c.args.rule) (mem c.args.words.now) (mem c.next.new.words) c.args.last c.free_place.result c.next.result c.requires.last
    c.free_place.ensures.placed c.next.ensures.beside c.requires.near c.next.ensures.made
