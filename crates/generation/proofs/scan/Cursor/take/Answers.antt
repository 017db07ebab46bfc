use Rattle.lent.specs.Lists.{words_of, stretch_of}
use Rattle.generation.proofs.Cursors.{cursor_hit, cursor_miss, cursor_pass, cursor_step}
use Rattle.generation.proofs.scan.Cursor.take.Goals as goal
use Rattle.std.proofs.Common.{refl}

pub returns-then-self-x-clause-lives : goal.returns-then-self-x-clause-lives
returns-then-self-x-clause-lives c =
    cursor_miss (words_of c.args.list) (stretch_of c.args.list) c.args.x c.args.self.now c.args.list.listed c.requires.0 c.requires.1 c.if-self-x.true

pub returns-then-self-x-clause-moved : goal.returns-then-self-x-clause-moved
returns-then-self-x-clause-moved c =
    cursor_pass (words_of c.args.list) (stretch_of c.args.list) c.args.x c.args.self.now c.args.list.listed c.requires.0 c.requires.1 c.if-self-x.true

pub returns-clause-lives : goal.returns-clause-lives
returns-clause-lives c =
    cursor_hit (words_of c.args.list) (stretch_of c.args.list) c.args.x c.args.self.now c.args.list.listed c.requires.0 c.requires.1 c.if-self-x.false

pub returns-clause-moved : goal.returns-clause-moved
returns-clause-moved c =
    cursor_step (words_of c.args.list) (stretch_of c.args.list) c.args.x c.args.self.now _ c.args.list.listed c.requires.0 c.if-self-x.false c.requires.1 refl refl refl
    c.head-self.ensures
