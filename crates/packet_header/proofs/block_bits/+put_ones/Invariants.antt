use Rattle.packet_header.proofs.block_bits.+put_ones.Given as goal

abbrev pub decreases-put_ones : goal.decreases-put_ones
decreases-put_ones l = l.ones
