-- `desk::stop_time_there` meets its contract. Assumes nothing.
use Rattle.desk.proofs.stop_time_there.Goals as goal

pub returns : goal.returns
returns c R d z s t = c.stop_time_in.ensures R d t z s
