-- The code's forms as the specification has them.
use Rattle.cache.specs.View.{sizes_of}
use Rattle.script.specs.Forms as form
use Rattle.script.specs.declared.Form.{Form}
use Rattle.script.specs.declared.Form.TheVariants.{Open, Write, Read, Step, Flush, Wear, Bad}

abbrev pub meant : Form → form.Form
meant (Open sizes) = form.opens (sizes_of sizes)
meant (Write n b) = form.writes n.0 b
meant (Read n) = form.reads n.0
meant Step = form.steps
meant Flush = form.flushes
meant Wear = form.wears
meant Bad = form.bad
