use Rattle.mt_settle.proofs.recovering.recovered_map.Given as goal

-- the name is that of the reference by which the disk is lent
abbrev pub ghosts-recover_into : goal.ghosts-recover_into
ghosts-recover_into g a = record { name = a.disk.ghost_name }
