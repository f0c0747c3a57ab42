mod Learned
