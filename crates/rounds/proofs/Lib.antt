mod Stamped
