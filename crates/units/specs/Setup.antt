-- What the settings come to: the speed words of the bring-up, and each timeout as cycles.
use Rattle.units.specs.declared.Settings.{Settings}
use Rattle.units.specs.declared.Setup.{Setup}
use Rattle.units.specs.Time.{to_cycles}
use Rattle.units.specs.Speed.{cr2_word, trise_word, ccr_word}

-- the limit is the start timeout for SB, the address timeout for ADDR and the data timeout for all else, times whole sysclk MHz
unfoldable pub setup_of : Settings → Setup
setup_of s =
    record {
      cr2 = cr2_word s.pclk1;
      trise = trise_word s.pclk1 s.mode;
      ccr = ccr_word s.pclk1 s.mode s.frequency;
      start_retries = s.start_retries;
      start_limit = to_cycles s.start_timeout s.sysclk;
      addr_limit = to_cycles s.addr_timeout s.sysclk;
      data_limit = to_cycles s.data_timeout s.sysclk;
    }
