use mathlib.Core.Path.{sym, ap, subst, ◌∙◌}
use Rattle.model.specs.Squares.{nw, ne, sw, se}
use Rattle.nodes.specs.Nodes.{square_of, quarters_of}
use Rattle.squares.specs.Parts.{QuartersOf}
use Rattle.squares.proofs.quarters.Goals as goal

pub returns : goal.returns
unfolding square_of
returns c = λ d q h.
    let s = c.args.store.now in let k = c.requires.good.sound.kids c.args.number d h.valid in
    subst (QuartersOf s d q) (sym (c.quarters.ensures ∙ ap quarters_of c.node.ensures))
    (record {
      is_nw = record { valid = k.knw; same = ap nw h.same };
      is_ne = record { valid = k.kne; same = ap ne h.same };
      is_sw = record { valid = k.ksw; same = ap sw h.same };
      is_se = record { valid = k.kse; same = ap se h.same };
    })
