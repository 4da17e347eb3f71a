-- The job that is made of a caller's numbers and lent lists.
--     job_of    by the numbers and lists
--     given     by the struct that holds them
-- Assumes nothing.
use Rattle.std.specs.Prelude.{ℕ, List}
use Rattle.model.specs.Job.{Job}
use Rattle.table.specs.Judged.{table_of}
use Rattle.planner.specs.declared.job.Job.{Job as Handed}

abbrev pub job_of : (islands cores island_power : ℕ) (frequencies powers loads : List ℕ) → Job
job_of islands cores island_power frequencies powers loads =
    record { islands = islands; cores = cores; island_power = island_power; table = table_of frequencies powers; loads = loads }

abbrev pub given : Handed → Job
given job =
    job_of job.islands job.cores job.island_power.0 job.table.frequencies.now job.table.powers.now job.loads.now
