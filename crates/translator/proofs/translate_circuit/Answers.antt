-- `translator::translate_circuit` meets its contract.
use Rattle.translator.proofs.Tables.{too_long, too_many, too_short, translated-all}
use Rattle.translator.proofs.translate_circuit.Goals as goal

pub returns-then-counts-gt-MOST_INSTRUCTIONS : goal.returns-then-counts-gt-MOST_INSTRUCTIONS
returns-then-counts-gt-MOST_INSTRUCTIONS c = too_long c.requires c.args.code.now c.if-counts-gt-MOST_INSTRUCTIONS.true

pub returns-then-counts-gt-MOST_CELLS : goal.returns-then-counts-gt-MOST_CELLS
returns-then-counts-gt-MOST_CELLS c = too_many c.requires c.args.code.now c.if-counts-gt-MOST_INSTRUCTIONS.false c.if-counts-gt-MOST_CELLS.true

pub returns-then-code-total : goal.returns-then-code-total
returns-then-code-total c = too_short c.requires c.args.code.now c.index.ensures c.index-2.ensures c.if-counts-gt-MOST_INSTRUCTIONS.false c.if-counts-gt-MOST_CELLS.false c.if-code-total.true

pub returns : goal.returns
returns c = translated-all c.requires c.args.code.now c.index.ensures c.index-2.ensures c.if-counts-gt-MOST_INSTRUCTIONS.false c.if-counts-gt-MOST_CELLS.false c.if-code-total.false c.put_header.ensures c.put_circuit.ensures
